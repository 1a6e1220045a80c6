use Rattle.ipc_wire.specs.Answers.{answer_at}
use Rattle.ipc_fields.proofs.FrontLemmas.{rest_behind, front_dropped}
use Rattle.ipc_wire.proofs.answer_reading.read_answer.Goals as goal

pub overflow_sub-result : goal.overflow_sub-result
overflow_sub-result c = (rest_behind c.args.bytes.now c.in-Some.body.now c.in-Some.rest.now (rw c.in-Some.is at c.in_ok-body_of.ensures)).0

pub returns-in_ok-answer-in-Some-clause-front : goal.returns-in_ok-answer-in-Some-clause-front
returns-in_ok-answer-in-Some-clause-front c =
    front_dropped answer_at c.args.bytes.now c.in-Some.body.now c.in-Some.rest.now c.in_ok-answer-in-Some.answer (rw c.in-Some.is at c.in_ok-body_of.ensures) c.in_ok-answer-in-Some.ensures
