use Rattle.std.proofs.Common.{rules}
use Rattle.ipc_terms.proofs.name.Name.as_slice.Goals as goal

pub returns : goal.returns
returns c = search rules
