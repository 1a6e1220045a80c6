use Rattle.std.proofs.Common.{◌∙◌, sym}
use Rattle.ipc_descr.specs.Counting.{numbers_of}
use Rattle.ipc_descr.proofs.PassingLemmas.{sets_passed, uses_passed}
use Rattle.ipc_descr.proofs.tallies.Tallies.pass.Goals as goal

pub returns-clause-ok : goal.returns-clause-ok
returns-clause-ok c = λ rows high rise some agrees. record {
  sets = λ q. sets_passed rows high c.args.sid.0 c.args.desc.0 q c.args.taker (numbers_of c.args.self.now.sets) (numbers_of c.put.new.sets) (numbers_of c.take.new.sets) c.requires rise some agrees.sets c.in_ok-put.ensures.ok c.in_ok-put.ensures.others c.take.ensures.here c.take.ensures.others;
  counts = λ o. agrees.counts o ∙ sym (uses_passed rows o c.args.desc.0 c.args.taker);
}
