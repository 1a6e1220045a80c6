use Rattle.ipc_log.proofs.HeadLemmas.{head_is_spelled}
use Rattle.ipc_log.proofs.laws.heads_are_spelled.Goals as goal

pub returns : goal.returns
returns c = λ h. head_is_spelled h
