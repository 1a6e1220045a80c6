use Rattle.ipc_state.proofs.Deadlines.{next_is, due_past}
use Rattle.ipc_state.proofs.states.State.least_deadline.Goals as goal

pub returns-clause-least : goal.returns-clause-least
returns-clause-least c = rw (← c.self.view_is) (next_is _ _ c.self.inside.clock c.least.result c.self.invariant.on_time c.least.ensures.some c.least.ensures.none)

pub returns-clause-due : goal.returns-clause-due
returns-clause-due c = rw (← c.self.view_is) (λ moment. due_past _ _ c.self.inside.clock moment c.least.result c.self.invariant.core.legal c.self.invariant.on_time c.least.ensures.some c.least.ensures.none)
