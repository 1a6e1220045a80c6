use Rattle.std.proofs.Common.{rules}
use Rattle.ipc_queue.proofs.queue.Queue.register.Goals as goal

pub returns-clause-free : goal.returns-clause-free
returns-clause-free c = search rules
