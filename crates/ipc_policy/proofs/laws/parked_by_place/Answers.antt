use Rattle.ipc_policy.proofs.Blocked.ParkedPlaces.{parked_by_place}
use Rattle.ipc_policy.proofs.laws.parked_by_place.Goals as goal

pub returns : goal.returns
returns g = parked_by_place
