use Rattle.ipc_core.proofs.core_state.Core.least_deadline.Goals as goal

pub returns-clause-least : goal.returns-clause-least
returns-clause-least c = rw (← c.self.view_is) c.least_deadline.ensures.least
