use Rattle.std.proofs.Common.{rules}
use Rattle.ipc_core.proofs.core_state.Core.waiting.Goals as goal

pub returns : goal.returns
returns c = search rules
