use Rattle.std.proofs.Common.{◌∙◌, sym, ap}
use Rattle.std.specs.Option.{option_copied}
use Rattle.ipc_terms.proofs.Changing.{none_found}
use Rattle.ipc_descr.specs.Charges.{is_user}
use Rattle.ipc_descr.proofs.ChargesLemmas.{at_place, leads}
use Rattle.ipc_descr.proofs.charges.find_charge.Goals as goal

pub returns-in_err-place : goal.returns-in_err-place
returns-in_err-place c =
    let u = c.args.uid.0 in
    ap option_copied c.from_residual.ensures ∙ sym (none_found (is_user u) c.args.rows.now (sym (leads c.args.ids.now c.args.rows.now u c.requires) ∙ sym c.in_err-place.ensures))

pub returns : goal.returns
returns c =
    let u = c.args.uid.0 in
    at_place c.args.rows.now u c.in_ok-place.place _ (sym (leads c.args.ids.now c.args.rows.now u c.requires) ∙ sym c.in_ok-place.ensures)
