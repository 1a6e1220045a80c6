use Rattle.std.proofs.Common.{rules}
use Rattle.ipc_policy.proofs.asking.description_of.Goals as goal

pub returns : goal.returns
returns c = search rules
