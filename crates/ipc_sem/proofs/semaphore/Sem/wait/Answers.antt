use Rattle.std.proofs.Common.{rules}
use Rattle.ipc_sem.proofs.semaphore.Sem.wait.Goals as goal

pub returns-in_err-park-clause-err : goal.returns-in_err-park-clause-err
returns-in_err-park-clause-err c = search rules
