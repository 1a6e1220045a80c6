use Rattle.std.proofs.Common.{◌∙◌, None, drop, slice_get, sym, ap, arith}
use Rattle.std.proofs.lemmas.List.{length-drop, drop-drop}
use Rattle.std.proofs.lemmas.Option.{slice_get_within}
use Rattle.ipc_containers.specs.Slots.{how_many_filled}
use Rattle.ipc_containers.proofs.SlotsLemmas.{filled_behind_first}
use Rattle.ipc_containers.proofs.recent.Recent.drop_first.Goals as goal

pub invariant_of-self : goal.invariant_of-self
invariant_of-self g c =
    let slots = c.self.inside.slots.items in
    let gone = c.self.inside.gone in
    let there = ap (λ xs. slice_get xs 0) c.self.view_is ∙ c.requires in
    let left = length-drop gone slots in
    let some = slice_get_within (drop gone slots) 0 None there in
    (omega arith, c.self.invariant.1 ∙ sym (filled_behind_first (drop gone slots) there) ∙ ap how_many_filled (drop-drop 1 gone slots))

pub returns : goal.returns
returns g c = c.compact.ensures ∙ sym (drop-drop 1 c.self.inside.gone c.self.inside.slots.items) ∙ ap (drop 1) c.self.view_is
