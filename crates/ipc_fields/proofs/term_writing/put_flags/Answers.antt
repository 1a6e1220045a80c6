use Rattle.std.proofs.Common.{rules, tests}
use Rattle.ipc_fields.specs.Terms.{flags_field}
use Rattle.ipc_fields.proofs.term_writing.put_flags.Goals as goal

pub returns : goal.returns
unfolding flags_field
returns c = search (tests, rules)
