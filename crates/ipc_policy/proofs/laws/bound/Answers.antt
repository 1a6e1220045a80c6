use Rattle.ipc_policy.proofs.Directories.Bindings.{bound_made}
use Rattle.ipc_policy.proofs.laws.bound.Goals as goal

pub returns : goal.returns
returns g = bound_made
