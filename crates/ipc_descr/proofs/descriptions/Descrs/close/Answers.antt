use Rattle.ipc_descr.proofs.descriptions.Descrs.close.Goals as goal

pub invariant_of-self : goal.invariant_of-self
invariant_of-self c = rw c.in_err-closed.ensures.absent c.self.invariant
