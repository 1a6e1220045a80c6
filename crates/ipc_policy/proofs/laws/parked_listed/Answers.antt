use Rattle.ipc_policy.proofs.Blocked.CallsListed.{calls_listed}
use Rattle.ipc_policy.proofs.laws.parked_listed.Goals as goal

pub returns : goal.returns
returns g = calls_listed
