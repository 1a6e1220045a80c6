use Rattle.std.proofs.Common.{rules}
use Rattle.ipc_rules.proofs.conditions.is_chmod_denied.Goals as goal

pub returns : goal.returns
returns c = search rules
