use Rattle.std.proofs.Common.{rules, tests}
use Rattle.ipc_rules.proofs.conditions.is_of_family.Goals as goal

pub returns-in-Some : goal.returns-in-Some
returns-in-Some c = search (tests, rules)
