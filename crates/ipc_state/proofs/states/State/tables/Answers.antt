use Rattle.ipc_state.proofs.states.State.tables.Goals as goal

pub returns : goal.returns
returns c = rw (← c.self.view_is) c.self.invariant.core
