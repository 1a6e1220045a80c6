use Rattle.std.proofs.Common.{rules}
use Rattle.ipc_rules.proofs.conditions.is_write_only.Goals as goal

pub returns-in-Write : goal.returns-in-Write
returns-in-Write c = search rules

pub returns-in_default : goal.returns-in_default
returns-in_default c = search rules
