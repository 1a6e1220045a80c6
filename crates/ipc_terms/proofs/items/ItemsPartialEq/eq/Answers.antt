use Rattle.std.proofs.Common.{rules}
use Rattle.ipc_terms.proofs.items.ItemsPartialEq.eq.Goals as goal

pub returns : goal.returns
returns c = search rules
