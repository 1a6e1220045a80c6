use Rattle.ipc_wire.proofs.AnswerLemmas.{one_answer}
use Rattle.ipc_wire.proofs.laws.one_answer.Goals as goal

pub returns : goal.returns
returns c = λ a b text a_fits b_fits d e. one_answer a b text a_fits b_fits d e
