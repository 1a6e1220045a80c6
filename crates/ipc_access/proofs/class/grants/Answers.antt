use Rattle.std.proofs.Common.{rules}
use Rattle.ipc_access.proofs.class.grants.Goals as goal

pub returns-then-is_root : goal.returns-then-is_root
returns-then-is_root c = search rules

pub returns-else-is_root : goal.returns-else-is_root
returns-else-is_root c = search rules
