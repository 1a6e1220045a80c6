use Rattle.std.proofs.Common.{rules, tests}
use Rattle.ipc_fields.specs.Field.{text}
use Rattle.ipc_fields.proofs.reading.text_at.Goals as goal

pub returns : goal.returns
unfolding text
returns c = search (tests, rules)
