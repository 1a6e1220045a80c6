use Rattle.std.proofs.Common.{◌∙◌}
use Rattle.ipc_state.proofs.lookup.Lookup.session_count.Goals as goal

pub returns : goal.returns
returns c = c.session_count.ensures ∙ c.tables.ensures.agrees.sessions.count
