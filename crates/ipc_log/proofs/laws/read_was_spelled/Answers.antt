use Rattle.ipc_log.proofs.TrailLemmas.{record_was_spelled}
use Rattle.ipc_log.proofs.laws.read_was_spelled.Goals as goal

pub returns : goal.returns
returns c = λ place n w r fits e. record_was_spelled place n w r fits e
