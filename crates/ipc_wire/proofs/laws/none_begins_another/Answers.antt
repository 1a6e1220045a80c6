use Rattle.ipc_wire.proofs.SpellingLemmas.{none_begins_another}
use Rattle.ipc_wire.proofs.laws.none_begins_another.Goals as goal

pub returns : goal.returns
returns c = λ text more p q. none_begins_another text more p q
