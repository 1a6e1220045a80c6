use Rattle.std.proofs.Common.{◌∙◌, refl, sym}
use Rattle.ipc_terms.proofs.Changing.{place_changed, none_changed}
use Rattle.ipc_descr.specs.Charges.{is_user, lowered}
use Rattle.ipc_descr.proofs.ChargesLemmas.{charged, leads, ids_stay}
use Rattle.ipc_descr.proofs.charges.Charges.give_back.Goals as goal

pub overflow_sub-charge : goal.overflow_sub-charge
overflow_sub-charge c =
    let place = sym (leads c.self.inside.ids c.self.inside.rows.items c.args.uid.0 c.self.invariant) ∙ sym c.place.ensures ∙ c.in-Some.is in
    charged c.self.inside.rows.items c.args.self.now c.args.uid.0 c.args.bytes c.in-Some.place c.index-charge.result.now c.self.view_is place c.index-charge.ensures c.requires

pub returns-in-Some : goal.returns-in-Some
returns-in-Some c =
    let user = is_user c.args.uid.0 in
    let place = sym (leads c.self.inside.ids c.self.inside.rows.items c.args.uid.0 c.self.invariant) ∙ sym c.place.ensures ∙ c.in-Some.is in
    rw (← c.self.view_is) (place_changed user (lowered c.args.bytes) c.self.inside.rows.items c.in-Some.place c.index-charge.result.now place c.index-charge.ensures)

pub returns-in_default : goal.returns-in_default
returns-in_default c =
    let user = is_user c.args.uid.0 in
    let place = sym (leads c.self.inside.ids c.self.inside.rows.items c.args.uid.0 c.self.invariant) ∙ sym c.place.ensures ∙ c.in_default.is in
    rw (← c.self.view_is) (sym (none_changed user (lowered c.args.bytes) c.self.inside.rows.items place))

pub invariant_of-self : goal.invariant_of-self
invariant_of-self c = ids_stay c.self.inside.ids c.self.inside.rows.items c.in-Some.place c.index-charge.result.now _ c.self.invariant c.index-charge.ensures refl
