use Rattle.std.proofs.Common.{rules}
use Rattle.ipc_policy.proofs.asking.kind_of.Goals as goal

pub returns-in-Queue-None : goal.returns-in-Queue-None
returns-in-Queue-None c = search rules
