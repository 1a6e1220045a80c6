use Rattle.std.proofs.Common.{rules, tests}
use Rattle.ipc_fields.proofs.reading.alone.Goals as goal

pub returns-then-is_empty : goal.returns-then-is_empty
returns-then-is_empty c = search (tests, rules)

pub returns-else-is_empty : goal.returns-else-is_empty
returns-else-is_empty c = search (tests, rules)
