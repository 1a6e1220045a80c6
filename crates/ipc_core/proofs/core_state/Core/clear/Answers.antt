use Rattle.std.proofs.Common.{refl}
use Rattle.ipc_policy.specs.Decides.Sessions.{hellos}
use Rattle.ipc_core.specs.Boxes.{untaken_by, taken}
use Rattle.ipc_core.proofs.BoxTables.{first_changed}
use Rattle.ipc_core.proofs.BoxSteps.{stand_taken}
use Rattle.ipc_core.proofs.core_state.Core.clear.Goals as goal

pub invariant_of-self : goal.invariant_of-self
invariant_of-self c =
    let inside = c.self.inside in
    stand_taken inside.state.config inside.state.history (untaken_by inside.outboxes) _ c.args.sid.0 c.clear.ensures c.self.invariant

pub returns : goal.returns
returns c =
    let inside = c.self.inside in
    let now = first_changed taken (hellos inside.state.history) (untaken_by inside.outboxes) _ c.args.sid.0 c.clear.ensures in
    rw (← c.self.view_is, now) refl
