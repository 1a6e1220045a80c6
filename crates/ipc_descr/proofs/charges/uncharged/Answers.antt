use Rattle.std.proofs.Common.{rules}
use Rattle.ipc_descr.proofs.charges.uncharged.Goals as goal

pub returns : goal.returns
returns c = search rules
