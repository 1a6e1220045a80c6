use Rattle.ipc_log.proofs.HeadLemmas.{head_is_read}
use Rattle.ipc_log.proofs.laws.spelled_head_is_read.Goals as goal

pub returns : goal.returns
returns c = λ h text rest plain e. head_is_read h text rest plain e
