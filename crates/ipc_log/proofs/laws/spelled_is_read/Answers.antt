use Rattle.ipc_log.proofs.TrailLemmas.{record_is_read}
use Rattle.ipc_log.proofs.laws.spelled_is_read.Goals as goal

pub returns : goal.returns
returns c = λ place r text rest fits e. record_is_read place r text rest fits e
