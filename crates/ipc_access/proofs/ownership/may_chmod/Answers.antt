use Rattle.std.proofs.Common.{rules}
use Rattle.ipc_access.proofs.ownership.may_chmod.Goals as goal

pub returns-else-is_root : goal.returns-else-is_root
returns-else-is_root c = search rules
