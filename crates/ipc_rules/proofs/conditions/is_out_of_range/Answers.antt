use Rattle.std.proofs.Common.{rules, tests}
use Rattle.ipc_rules.proofs.conditions.is_out_of_range.Goals as goal

pub returns-then-most-given : goal.returns-then-most-given
returns-then-most-given c = search (tests, rules)

pub returns-else-most-given : goal.returns-else-most-given
returns-else-most-given c = search (tests, rules)
