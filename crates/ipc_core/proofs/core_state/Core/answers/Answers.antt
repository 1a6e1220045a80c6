use Rattle.std.proofs.Common.{◌∙◌, sym, ap}
use Rattle.ipc_policy.specs.Decides.Sessions.{hellos}
use Rattle.ipc_core.specs.Boxes.{box_at, untaken_by}
use Rattle.ipc_core.specs.CoreView.{CoreView}
use Rattle.ipc_core.proofs.BoxTables.{box_first}
use Rattle.ipc_core.proofs.core_state.Core.answers.Goals as goal

pub returns : goal.returns
returns c =
    let inside = c.self.inside in
    c.get.ensures
    ∙ sym (box_first (hellos inside.state.history) (untaken_by inside.outboxes) c.args.sid.0 c.self.invariant.unstarted)
    ∙ ap (λ (a : CoreView). box_at a.untaken c.args.sid.0) c.self.view_is
