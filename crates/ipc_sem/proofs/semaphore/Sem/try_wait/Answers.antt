use Rattle.std.proofs.Common.{rules}
use Rattle.ipc_sem.proofs.semaphore.Sem.try_wait.Goals as goal

pub returns-then-self-eq0-clause-passed : goal.returns-then-self-eq0-clause-passed
returns-then-self-eq0-clause-passed c = search rules
