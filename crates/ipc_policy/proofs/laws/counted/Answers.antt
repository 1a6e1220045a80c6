use Rattle.ipc_policy.proofs.Semaphores.ValueCounts.{value_counted}
use Rattle.ipc_policy.proofs.laws.counted.Goals as goal

pub returns : goal.returns
returns g = value_counted
