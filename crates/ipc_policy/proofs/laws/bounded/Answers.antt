use Rattle.ipc_policy.proofs.Queues.QueueBounds.{each_bounded}
use Rattle.ipc_policy.proofs.laws.bounded.Goals as goal

pub returns : goal.returns
returns g = each_bounded
