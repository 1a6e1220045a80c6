use Rattle.std.proofs.Common.{◌∙◌, IsSome, refl, sym, ap, subst, length}
use Rattle.slab.specs.Slab.{get}
use Rattle.ipc_descr.specs.Descriptions.{Descriptions, row_of, with_session}
use Rattle.ipc_descr.proofs.PlacesLemmas.{found_of}
use Rattle.ipc_descr.proofs.KeepingLemmas.{passed}
use Rattle.ipc_descr.proofs.KeptLemmas.{kept_changed}
use Rattle.ipc_descr.proofs.table.Table.set_session.Goals as goal

pub returns-in_default : goal.returns-in_default
returns-in_default c =
    let stored = get c.self.inside.rows in
    let slots = c.self.inside.slots in
    let none = c.in_default.ensures.row ∙ sym (found_of stored slots c.args.sid.0 c.args.desc.0) in
    let Holds : Descriptions → Type 0 = λ d. IsSome (row_of d.rows c.args.sid.0 c.args.desc.0) in
    let holds = subst Holds (sym c.self.view_is) c.requires in
    let none_holds = subst IsSome (sym none) holds in
    cc

pub returns : goal.returns
returns c =
    let slot = c.in-Some.ensures in
    let set = passed _ _ c.self.inside.slots c.args.sid.0 c.args.desc.0 c.in-Some.slot _ slot.slot slot.row slot.held c.pass_row.ensures.row in
    rw (← c.self.view_is) (ap (λ rows. record { rows = rows; opened = length c.self.inside.slots }) set)

pub invariant_of-self : goal.invariant_of-self
invariant_of-self c = kept_changed c.self.inside.rows c.pass_row.new.rows c.self.inside.slots c.in-Some.slot (with_session c.args.taker) c.self.invariant (λ row. refl) c.pass_row.ensures.row c.pass_row.ensures.len
