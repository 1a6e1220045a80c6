use Rattle.std.proofs.Common.{rules, tests}
use Rattle.ipc_access.proofs.ownership.may_chown.Goals as goal

pub returns-then-takes_for_itself : goal.returns-then-takes_for_itself
returns-then-takes_for_itself c = search (tests, rules)
