use Rattle.ipc_state.proofs.states.State.add.Goals as goal

pub invariant_of-self : goal.invariant_of-self
invariant_of-self c = rw c.reserve_one.ensures.kept c.self.invariant

pub invariant_of-self-2 : goal.invariant_of-self-2
invariant_of-self-2 c = rw c.push_reserved.ensures.history c.in_ok-step.ensures.ok
