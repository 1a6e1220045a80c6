use Rattle.ipc_policy.proofs.Lists.EntryOrder.{inside_in_order, next_is_greatest}
use Rattle.ipc_policy.proofs.laws.in_order.Goals as goal

pub returns-clause-order : goal.returns-clause-order
returns-clause-order g = inside_in_order

pub returns-clause-greatest : goal.returns-clause-greatest
returns-clause-greatest g = next_is_greatest
