use Rattle.std.proofs.Common.{rules, tests}
use Rattle.ipc_queue.proofs.queue.Queue.registered.Goals as goal

pub returns : goal.returns
returns c = search (tests, rules)
