use Rattle.std.proofs.Common.{ap, ◌∙◌}
use Rattle.ipc_terms.specs.Events.{caller}
use Rattle.ipc_state.proofs.LiveSessions.{caller_there}
use Rattle.ipc_state.proofs.Lookups.{cred_is}
use Rattle.ipc_state.specs.Rows.{user_in}
use Rattle.ipc_state.proofs.lookup.Lookup.cred.Goals as goal

pub returns : goal.returns
returns c =
    let met = c.self.invariant in
    rw (← c.self.view_is) (c.user_in.ensures ∙ ap (user_in c.self.inside.config.now) (met.of_session ∙ caller_there _ _ _ c.self.inside.event.now met.core.agrees.sessions met.few (rw (← c.self.view_is) at c.requires)) ∙ cred_is _ _ _ (caller c.self.inside.event.now).0 met.core.agrees.sessions)
