use Rattle.ipc_log.proofs.SpellingLemmas.{record_is_spelled}
use Rattle.ipc_log.proofs.laws.records_are_spelled.Goals as goal

pub returns : goal.returns
returns c = λ place r frame. record_is_spelled place r frame
