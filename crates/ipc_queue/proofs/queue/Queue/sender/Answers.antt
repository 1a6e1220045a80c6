use Rattle.std.proofs.Common.{rules}
use Rattle.ipc_queue.proofs.queue.Queue.sender.Goals as goal

pub returns : goal.returns
returns c = search rules
