use Rattle.ipc_log.proofs.HeadLemmas.{head_cut_is_awaited}
use Rattle.ipc_log.proofs.laws.cut_head_is_awaited.Goals as goal

pub returns : goal.returns
returns c = λ h n text e lt. head_cut_is_awaited h n text e lt
