use Rattle.std.proofs.Common.{◌≡◌, true, ◌∙◌, ap, sym}
use Rattle.ipc_terms.specs.Events.{caller}
use Rattle.ipc_policy.specs.Decides.Sessions.{live}
use Rattle.ipc_tables.specs.TablesView.{is_live_row}
use Rattle.ipc_state.specs.Meetings.{Meeting}
use Rattle.ipc_state.proofs.LiveSessions.{live_same, there_stands}
use Rattle.ipc_state.proofs.Lookups.{mask_is}
use Rattle.ipc_state.proofs.lookup.Lookup.mask.Goals as goal

pub unreachable-requires : goal.unreachable-requires
unreachable-requires c =
    let met = c.self.invariant in
    let lives : live c.self.inside.trail.now.history (caller c.self.inside.event.now).0 ≡ true = ap (λ (m : Meeting). live m.history (caller m.event).0) c.self.view_is ∙ c.requires in
    let no = sym (ap is_live_row c.in_default.is) ∙ ap is_live_row met.of_session ∙ live_same _ (caller c.self.inside.event.now).0 ∙ met.core.agrees.sessions.lives (caller c.self.inside.event.now).0 ∙ lives in
    cc

pub returns : goal.returns
returns c =
    let met = c.self.invariant in
    rw (← c.self.view_is) (mask_is _ _ _ (caller c.self.inside.event.now).0 c.in-Some.session met.core.agrees.sessions (sym (there_stands _ (caller c.self.inside.event.now).0 c.in-Some.session (sym met.of_session ∙ c.in-Some.is))))
