use Rattle.std.proofs.Common.{rules, tests}
use Rattle.ipc_access.proofs.file.is_full.Goals as goal

pub returns : goal.returns
returns c = search (tests, rules)
