use Rattle.std.proofs.Common.{rules}
use Rattle.ipc_sem.proofs.semaphore.Sem.value.Goals as goal

pub returns : goal.returns
returns c = search rules
