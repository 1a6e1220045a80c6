use Rattle.std.proofs.Common.{rules, ◌≡◌, [], take, take_all, refl}
use Rattle.std.proofs.KnownBytes.{Appends-nil}
use Rattle.ipc_script.proofs.PrintLemmas.{written_next}
use Rattle.ipc_script.proofs.script.Script.write_answers.Goals as goal

pub loop-answer-init : goal.loop-answer-init
loop-answer-init g c = ([], Appends-nil _, (refl, refl), refl)

pub loop-answer-preserved : goal.loop-answer-preserved
loop-answer-preserved g c =
    written_next g.W.Write.contents c.args.label.now c.args.sid c.args.told.now c.loop-answer.answer-index c.answer-item.result
    c.args.self.now c.loop-answer.self c.write_answer.new.self (search rules) c.answer-item.is
    c.loop-answer.invariant c.in_ok-write_answer.ensures.prints

pub returns-clause-prints : goal.returns-clause-prints
returns-clause-prints g c =
    let whole : take c.loop-answer.answer-index c.args.told.now ≡ c.args.told.now = search (rules, take_all) in
    rw whole at c.loop-answer.invariant
