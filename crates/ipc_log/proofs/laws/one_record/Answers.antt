use Rattle.ipc_log.proofs.TrailLemmas.{one_record}
use Rattle.ipc_log.proofs.laws.one_record.Goals as goal

pub returns : goal.returns
returns c = λ p q r s text p_fits q_fits d e. one_record p q r s text p_fits q_fits d e
