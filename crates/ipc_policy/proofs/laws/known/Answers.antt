use Rattle.ipc_policy.proofs.Directories.Bindings.{caller_known}
use Rattle.ipc_policy.proofs.laws.known.Goals as goal

pub returns : goal.returns
returns g = caller_known
