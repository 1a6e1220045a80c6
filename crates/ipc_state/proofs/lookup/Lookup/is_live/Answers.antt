use Rattle.std.proofs.Common.{ap, ◌∙◌}
use Rattle.ipc_tables.specs.TablesView.{is_live_row}
use Rattle.ipc_terms.specs.Events.{caller}
use Rattle.ipc_state.proofs.LiveSessions.{live_same}
use Rattle.ipc_state.proofs.lookup.Lookup.is_live.Goals as goal

pub returns : goal.returns
returns c =
    let met = c.self.invariant in
    rw (← c.self.view_is) (c.is_live_in.ensures ∙ ap is_live_row met.of_session ∙ live_same _ (caller c.self.inside.event.now).0 ∙ met.core.agrees.sessions.lives (caller c.self.inside.event.now).0)
