use Rattle.ipc_policy.proofs.Histories.Grown.{grows}
use Rattle.ipc_policy.proofs.laws.grow.Goals as goal

pub returns : goal.returns
returns g = grows
