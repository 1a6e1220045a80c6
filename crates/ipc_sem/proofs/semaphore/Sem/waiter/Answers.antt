use Rattle.std.proofs.Common.{rules, tests}
use Rattle.ipc_sem.proofs.semaphore.Sem.waiter.Goals as goal

pub returns : goal.returns
returns c = search (tests, rules)
