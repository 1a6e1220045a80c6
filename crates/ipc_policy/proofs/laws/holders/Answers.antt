use Rattle.ipc_policy.proofs.Blocked.Holders.{one_holder, parked_gives_nothing}
use Rattle.ipc_policy.proofs.Queues.Registering.{registered_is_held}
use Rattle.ipc_policy.proofs.laws.holders.Goals as goal

pub returns-clause-one : goal.returns-clause-one
returns-clause-one g = one_holder

pub returns-clause-parked : goal.returns-clause-parked
returns-clause-parked g = parked_gives_nothing

pub returns-clause-registered : goal.returns-clause-registered
returns-clause-registered g = registered_is_held
