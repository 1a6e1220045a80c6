use Rattle.std.proofs.Common.{rules}
use Rattle.ipc_terms.proofs.counts.lower.Goals as goal

pub returns-then-before-le1 : goal.returns-then-before-le1
returns-then-before-le1 c = search rules
