use Rattle.ipc_policy.proofs.Blocked.Earliest.{earliest_due, due_live}
use Rattle.ipc_policy.proofs.Blocked.TimedSteps.{parked_by_tick}
use Rattle.ipc_policy.proofs.laws.ticks.Goals as goal

pub returns-clause-earliest : goal.returns-clause-earliest
returns-clause-earliest g = earliest_due

pub returns-clause-one : goal.returns-clause-one
returns-clause-one g = parked_by_tick

pub returns-clause-live : goal.returns-clause-live
returns-clause-live g = due_live
