use Rattle.std.proofs.Common.{arith}
use Rattle.ipc_metrics.proofs.RequestLemmas.{asks_of_parts}
use Rattle.ipc_metrics.proofs.asked.asked_by.Goals as goal

pub returns-in-Ok-Complete-clause-asks : goal.returns-in-Ok-Complete-clause-asks
returns-in-Ok-Complete-clause-asks c =
    asks_of_parts c.args.head.now c.parse_request.new.headers c.in-Ok-Complete.spans (omega arith) (rw c.in-Ok-Complete.field-0-is at c.in-Ok-Complete.ensures.complete)
    c.of.result.now c.of-in-Ok-Complete.result.now c.of.ensures c.of-in-Ok-Complete.ensures c.asked_for.result c.asked_for.ensures
