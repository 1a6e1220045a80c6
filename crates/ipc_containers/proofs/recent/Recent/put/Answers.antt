use Rattle.std.proofs.Common.{◌+◌, ◌∙◌, drop, slice_get, Some, None, refl, ap, arith}
use Rattle.std.proofs.lemmas.List.{length-drop, length-set, drop-set-add}
use Rattle.ipc_containers.proofs.SlotsLemmas.{filled_within, filled_put, written}
use Rattle.ipc_containers.proofs.recent.Recent.put.Goals as goal

pub overflow_add-self : goal.overflow_add-self
overflow_add-self g c =
    let slots = c.self.inside.slots.items in
    let few = filled_within (drop c.self.inside.gone slots) in
    let filled = c.self.invariant.1 in
    let left = length-drop c.self.inside.gone slots in
    let len = c.self.inside.slots.ok in
    let small = c.self.inside.slots.small in
    omega arith

pub invariant_of-self : goal.invariant_of-self
invariant_of-self g c =
    let slots = c.self.inside.slots.items in
    let gone = c.self.inside.gone in
    let there = ap (λ s. slice_get s c.args.slot) c.self.view_is ∙ c.requires in
    let is = drop-set-add gone slots c.args.slot (Some c.args.value) ∙ written (λ o. Some c.args.value) (drop gone slots) c.args.slot _ None there refl in
    let more = filled_put (drop gone slots) c.args.slot c.args.value there in
    let filled = c.self.invariant.1 in
    let left = c.self.invariant.0 in
    let same = length-set slots (gone + c.args.slot) (Some c.args.value) in
    (omega arith, rw is (omega arith))

pub returns : goal.returns
returns g c =
    let slots = c.self.inside.slots.items in
    let gone = c.self.inside.gone in
    let there = ap (λ s. slice_get s c.args.slot) c.self.view_is ∙ c.requires in
    rw (← c.self.view_is) (drop-set-add gone slots c.args.slot (Some c.args.value) ∙ written (λ o. Some c.args.value) (drop gone slots) c.args.slot _ None there refl)
