use Rattle.std.proofs.Common.{rules}
use Rattle.ipc_rules.proofs.conditions.is_too_great.Goals as goal

pub returns-in-Semaphore : goal.returns-in-Semaphore
returns-in-Semaphore c = search rules
