use Rattle.std.proofs.Common.{rules}
use Rattle.ipc_access.proofs.removal.has_sticky_bit.Goals as goal

pub returns : goal.returns
returns c = search rules
