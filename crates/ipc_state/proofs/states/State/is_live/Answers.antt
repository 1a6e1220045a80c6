use Rattle.std.proofs.Common.{ap, ◌∙◌}
use Rattle.ipc_tables.specs.TablesView.{is_live_row}
use Rattle.ipc_state.proofs.LiveSessions.{live_same}
use Rattle.ipc_state.proofs.states.State.is_live.Goals as goal

pub returns : goal.returns
returns c = rw (← c.self.view_is) (c.is_live_in.ensures ∙ ap is_live_row c.session.ensures.live ∙ live_same _ c.args.sid.0 ∙ c.self.invariant.core.agrees.sessions.lives c.args.sid.0)
