use Rattle.ipc_state.proofs.Ending.{due_found}
use Rattle.ipc_state.proofs.states.State.due.Goals as goal

pub returns : goal.returns
returns c = rw (← c.self.view_is) (due_found _ _ c.self.inside.clock c.args.moment c.due_at.result c.self.invariant.core.legal c.self.invariant.on_time c.due_at.ensures)
