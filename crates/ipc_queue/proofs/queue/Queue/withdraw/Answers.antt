use Rattle.std.proofs.Common.{rules, tests}
use Rattle.ipc_queue.specs.Tickets.{is_parked, withdrawn}
use Rattle.ipc_queue.proofs.queue.Queue.withdraw.Goals as goal

pub returns-clause-found : goal.returns-clause-found
unfolding is_parked withdrawn
returns-clause-found c = search (tests, rules)

pub returns-clause-rest : goal.returns-clause-rest
unfolding is_parked withdrawn
returns-clause-rest c = search (tests, rules)
