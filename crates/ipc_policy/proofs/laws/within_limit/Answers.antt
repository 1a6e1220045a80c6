use Rattle.ipc_policy.proofs.Queues.Limiting.{within_limit}
use Rattle.ipc_policy.proofs.laws.within_limit.Goals as goal

pub returns : goal.returns
returns g = within_limit
