use Rattle.std.proofs.Common.{rules, tests}
use Rattle.ipc_terms.proofs.record.Event.name.Goals as goal

pub returns-in-Do : goal.returns-in-Do
returns-in-Do c = search (tests, rules)
