use Rattle.ipc_policy.proofs.Fates.OneFate.{one_fate}
use Rattle.ipc_policy.proofs.messages.once.Goals as goal

pub returns : goal.returns
returns g = one_fate
