use Rattle.std.proofs.Common.{subst}
use Rattle.std.specs.Prelude.{IfOk}
use Rattle.ipc_state.specs.StateView.{StateView}
use Rattle.ipc_living.specs.Living.{SameLiving}
use Rattle.ipc_living.proofs.living.Living.retell.Goals as goal

pub returns-clause-same : goal.returns-clause-same
returns-clause-same g c = subst (λ (s : StateView). IfOk c.compact.result (λ story. SameLiving s.config s.history story.config story.history)) c.self.view_is c.compact.ensures.same
