use Rattle.std.proofs.Common.{rules}
use Rattle.ipc_containers.proofs.buckets.Buckets.first_of.Goals as goal

pub returns : goal.returns
returns g c = search rules
