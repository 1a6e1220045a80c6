use Rattle.std.proofs.Common.{rules}
use Rattle.ipc_terms.proofs.counts.raise.Goals as goal

pub returns-clause-ok : goal.returns-clause-ok
returns-clause-ok c = search rules
