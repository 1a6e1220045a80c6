use Rattle.std.proofs.Common.{rules, tests}
use Rattle.ipc_sem.specs.Counters.{withdrawn}
use Rattle.ipc_sem.proofs.semaphore.Sem.withdraw.Goals as goal

pub returns-clause-rest : goal.returns-clause-rest
unfolding withdrawn
returns-clause-rest c = search (tests, rules)
