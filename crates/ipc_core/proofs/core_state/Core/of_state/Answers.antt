use Rattle.ipc_policy.specs.Decides.Sessions.{hellos}
use Rattle.ipc_core.proofs.BoxSteps.{stand_fresh, fresh_box}
use Rattle.ipc_core.proofs.core_state.Core.of_state.Goals as goal

pub invariant_of-result : goal.invariant_of-result
invariant_of-result c = stand_fresh _ _ _ c.new.ensures

pub returns-clause-nothing : goal.returns-clause-nothing
returns-clause-nothing c s = fresh_box (hellos c.args.state.history) _ s c.new.ensures
