use Rattle.std.proofs.Common.{rules, tests}
use Rattle.ipc_fields.specs.Terms.{flags_field}
use Rattle.ipc_fields.proofs.term_reading.flags_at.Goals as goal

pub returns-in_default : goal.returns-in_default
unfolding flags_field
returns-in_default c = search (tests, rules)
