use Rattle.std.proofs.Common.{◌∙◌, sym}
use Rattle.ipc_descr.proofs.RowsLemmas.{held_set, uses_set}
use Rattle.ipc_descr.proofs.descriptions.Descrs.set_nonblock.Goals as goal

pub invariant_of-self : goal.invariant_of-self
invariant_of-self c = rw c.set_nonblock.ensures (record {
  sets = λ s. c.self.invariant.sets s ∙ sym (held_set c.self.inside.table.rows s c.args.desc.0 c.args.nonblock);
  counts = λ o. c.self.invariant.counts o ∙ sym (uses_set c.self.inside.table.rows o c.args.desc.0 c.args.nonblock);
})
