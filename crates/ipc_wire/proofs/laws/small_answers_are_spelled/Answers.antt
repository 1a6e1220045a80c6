use Rattle.ipc_wire.proofs.SmallAnswers.{small_spelled}
use Rattle.ipc_wire.proofs.laws.small_answers_are_spelled.Goals as goal

pub returns : goal.returns
returns c = λ most a le small. small_spelled most a le small
