use Rattle.std.proofs.Common.{rules, tests}
use Rattle.ipc_rules.proofs.conditions.is_removal_denied.Goals as goal

pub returns : goal.returns
returns c = search (tests, rules)
