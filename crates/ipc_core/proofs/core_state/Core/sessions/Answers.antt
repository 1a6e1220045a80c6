use Rattle.std.proofs.Common.{◌∙◌}
use Rattle.ipc_core.proofs.core_state.Core.sessions.Goals as goal

pub returns : goal.returns
returns c = rw (← c.self.view_is) (c.session_count.ensures ∙ c.tables.ensures.agrees.sessions.count)
