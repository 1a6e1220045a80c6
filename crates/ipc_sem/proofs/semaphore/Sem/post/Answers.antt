use Rattle.std.proofs.Common.{rules}
use Rattle.ipc_sem.proofs.semaphore.Sem.post.Goals as goal

pub invariant_of-self : goal.invariant_of-self
invariant_of-self c = search rules
