use Rattle.ipc_policy.proofs.Queues.InsidePlaces.{inside_by_place}
use Rattle.ipc_policy.proofs.laws.inside_by_place.Goals as goal

pub returns : goal.returns
returns g = inside_by_place
