use Rattle.std.proofs.Common.{◌∙◌, refl, sym}
use Rattle.ipc_terms.proofs.Changing.{place_changed, none_changed}
use Rattle.ipc_descr.specs.Charges.{is_user, limited}
use Rattle.ipc_descr.proofs.ChargesLemmas.{leads, ids_stay}
use Rattle.ipc_descr.proofs.charges.Charges.set_limit.Goals as goal

pub returns-in-Some : goal.returns-in-Some
returns-in-Some c =
    let user = is_user c.args.uid.0 in
    let place = sym (leads c.self.inside.ids c.self.inside.rows.items c.args.uid.0 c.self.invariant) ∙ sym c.place.ensures ∙ c.in-Some.is in
    rw (← c.self.view_is) (place_changed user (limited c.args.bytes) c.self.inside.rows.items c.in-Some.place c.index_mut-charge.result.now place c.index_mut-charge.ensures.value)

pub returns-in_default : goal.returns-in_default
returns-in_default c =
    let user = is_user c.args.uid.0 in
    let place = sym (leads c.self.inside.ids c.self.inside.rows.items c.args.uid.0 c.self.invariant) ∙ sym c.place.ensures ∙ c.in_default.is in
    rw (← c.self.view_is) (sym (none_changed user (limited c.args.bytes) c.self.inside.rows.items place))

pub invariant_of-self : goal.invariant_of-self
invariant_of-self c = ids_stay c.self.inside.ids c.self.inside.rows.items c.in-Some.place c.index_mut-charge.result.now _ c.self.invariant c.index_mut-charge.ensures.value refl
