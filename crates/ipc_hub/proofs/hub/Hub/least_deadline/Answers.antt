use Rattle.ipc_hub.proofs.hub.Hub.least_deadline.Goals as goal

pub returns-clause-least : goal.returns-clause-least
returns-clause-least c = rw (← c.self.view_is, ← c.core.ensures) c.least_deadline.ensures.least
