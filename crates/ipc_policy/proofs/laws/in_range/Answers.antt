use Rattle.ipc_policy.proofs.Semaphores.SemaphoreBounds.{each_in_range, waits_at_zero}
use Rattle.ipc_policy.proofs.laws.in_range.Goals as goal

pub returns-clause-range : goal.returns-clause-range
returns-clause-range g = each_in_range

pub returns-clause-waits : goal.returns-clause-waits
returns-clause-waits g = waits_at_zero
