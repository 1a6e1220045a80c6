use Rattle.std.proofs.Common.{rules}
use Rattle.ipc_rules.proofs.conditions.bits_of.Goals as goal

pub returns-in-Both : goal.returns-in-Both
returns-in-Both c = search rules
