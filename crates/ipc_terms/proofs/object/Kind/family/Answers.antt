use Rattle.std.proofs.Common.{rules}
use Rattle.ipc_terms.proofs.object.Kind.family.Goals as goal

pub returns-in-Queue : goal.returns-in-Queue
returns-in-Queue c = search rules
