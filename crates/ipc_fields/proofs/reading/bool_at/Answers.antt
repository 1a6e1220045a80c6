use Rattle.std.proofs.Common.{rules, tests}
use Rattle.ipc_fields.specs.Field.{boolean}
use Rattle.ipc_fields.proofs.reading.bool_at.Goals as goal

pub returns-in_default : goal.returns-in_default
unfolding boolean
returns-in_default c = search (tests, rules)
