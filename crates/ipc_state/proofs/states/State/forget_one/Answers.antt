use Rattle.ipc_state.proofs.states.State.forget_one.Goals as goal

pub invariant_of-self : goal.invariant_of-self
invariant_of-self c = rw c.forget_one.ensures.history c.self.invariant
