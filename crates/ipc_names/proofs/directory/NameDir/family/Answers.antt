use Rattle.std.proofs.Common.{rules, tests}
use Rattle.ipc_names.proofs.directory.NameDir.family.Goals as goal

pub returns : goal.returns
returns c = search (tests, rules)
