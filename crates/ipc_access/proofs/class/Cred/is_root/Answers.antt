use Rattle.std.proofs.Common.{rules}
use Rattle.ipc_access.proofs.class.Cred.is_root.Goals as goal

pub returns : goal.returns
returns c = search rules
