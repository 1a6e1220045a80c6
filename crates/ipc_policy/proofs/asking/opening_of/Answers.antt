use Rattle.std.proofs.Common.{rules}
use Rattle.ipc_policy.proofs.asking.opening_of.Goals as goal

pub returns-in-Do-default-SemOpen : goal.returns-in-Do-default-SemOpen
returns-in-Do-default-SemOpen c = search rules
