use Rattle.ipc_policy.proofs.Blocked.ParkedSessions.{is_parked}
use Rattle.ipc_policy.proofs.laws.parked_alive.Goals as goal

pub returns : goal.returns
returns g = is_parked
