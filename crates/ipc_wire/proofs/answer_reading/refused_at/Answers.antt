use Rattle.std.proofs.Common.{◌≡◌, Some}
use Rattle.ipc_terms.specs.declared.call.Answer.TheVariants as answer
use Rattle.ipc_fields.proofs.FieldLemmas.{alone_to}
use Rattle.ipc_wire.specs.Answers.{rule_of, rule_field, answer_fields_at}
use Rattle.ipc_wire.proofs.answer_reading.refused_at.Goals as goal

pub returns : goal.returns
unfolding answer_fields_at rule_field
returns c =
    let found : Some c.in-Some.rule ≡ rule_of c.in_ok-number.number = c.in-Some.ensures in
    rw (c.in_ok-number.ensures, ← found, alone_to answer.Refused c.in-Some.rule c.in_ok-number.rest.now) c.alone.ensures
