use Rattle.std.proofs.Common.{ap, ◌∙◌}
use Rattle.ipc_policy.specs.Decides.Sessions.{live}
use Rattle.ipc_state.specs.StateView.{StateView}
use Rattle.ipc_history.proofs.past.Past.resume.Goals as goal

pub returns-clause-nobody : goal.returns-clause-nobody
returns-clause-nobody c s = ap (λ (a : StateView). live a.history s) c.into_state.ensures ∙ c.in_ok-hang_up_all.ensures.nobody s
