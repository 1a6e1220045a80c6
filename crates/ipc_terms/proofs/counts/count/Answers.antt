use Rattle.std.proofs.Common.{rules}
use Rattle.ipc_terms.proofs.counts.count.Goals as goal

pub returns-in-None : goal.returns-in-None
returns-in-None c = search rules
