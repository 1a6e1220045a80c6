use Rattle.std.proofs.Common.{rules, tests}
use Rattle.ipc_queue.specs.Tickets.{without_registration}
use Rattle.ipc_queue.proofs.queue.Queue.unregister.Goals as goal

pub returns-then-eq : goal.returns-then-eq
unfolding without_registration
returns-then-eq c = search (tests, rules)
