use Rattle.ipc_wire.proofs.RequestLemmas.{one_request}
use Rattle.ipc_wire.proofs.laws.one_request.Goals as goal

pub returns : goal.returns
returns c = λ p q text p_fits q_fits d e. one_request p q text p_fits q_fits d e
