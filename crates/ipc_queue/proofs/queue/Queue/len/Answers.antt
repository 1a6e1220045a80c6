use Rattle.std.proofs.Common.{rules, tests}
use Rattle.ipc_queue.proofs.queue.Queue.len.Goals as goal

pub returns-clause-count : goal.returns-clause-count
returns-clause-count c = search (tests, rules)
