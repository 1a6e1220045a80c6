use Rattle.std.proofs.Common.{rules}
use Rattle.ipc_descr.proofs.charges.checked_bytes_of.Goals as goal

pub returns : goal.returns
returns c = search rules
