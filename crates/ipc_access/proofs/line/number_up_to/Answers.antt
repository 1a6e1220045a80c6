use Rattle.std.proofs.Common.{sym, ◌∙◌}
use Rattle.std.proofs.lemmas.Bool.{both_ways}
use Rattle.ipc_access.proofs.NumberLemmas.{not_text, same_text, refused}
use Rattle.ipc_access.proofs.line.number_up_to.Goals as goal

-- the bytes of a number are a text
pub returns-in_err-ok : goal.returns-in_err-ok
returns-in_err-ok c =
    let text = c.args.text.now in
    let taken = not_text text c.from_utf8.result _ _ (sym c.if-not-is_number.ensures) c.from_utf8.ensures.cases in
    absurd (both_ways _ (sym c.in_err-ok.ensures.variant) taken)

-- a number that `parse` refuses is too great
pub returns-in_err-number : goal.returns-in_err-number
returns-in_err-number c =
    let text = c.args.text.now in
    let same = same_text text c.from_utf8.result _ _ c.from_utf8.ensures.cases (sym c.in_ok-ok.ensures.value) in
    c.from_residual-in_err-number.ensures
    ∙ sym (refused c.args.most text _ c.parse.result c.ranges.most.fits (sym c.if-not-is_number.ensures) same c.parse.ensures.value.0 (sym c.in_err-number.ensures.variant))
