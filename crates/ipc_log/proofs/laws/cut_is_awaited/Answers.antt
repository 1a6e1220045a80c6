use Rattle.ipc_log.proofs.TrailLemmas.{cut_is_awaited}
use Rattle.ipc_log.proofs.laws.cut_is_awaited.Goals as goal

pub returns : goal.returns
returns c = λ place other n r text e lt. cut_is_awaited place other n r text e lt
