use Rattle.std.proofs.Common.{rules}
use Rattle.ipc_policy.proofs.asking.naming_of.Goals as goal

pub returns-in_default-call : goal.returns-in_default-call
returns-in_default-call c = search rules
