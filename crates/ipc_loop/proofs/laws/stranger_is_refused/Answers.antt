use Rattle.ipc_loop.proofs.RoundLemmas.{each_other}
use Rattle.ipc_loop.proofs.laws.stranger_is_refused.Goals as goal

pub returns : goal.returns
returns c = each_other
