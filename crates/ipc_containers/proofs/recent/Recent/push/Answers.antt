use Rattle.std.proofs.Common.{◌∙◌, [], ◌∷◌, Some, drop, ap, arith}
use Rattle.std.proofs.lemmas.List.{length-drop, length_push, drop-append-le}
use Rattle.ipc_containers.specs.Slots.{how_many_filled}
use Rattle.ipc_containers.proofs.SlotsLemmas.{filled_within, filled_push}
use Rattle.ipc_containers.proofs.recent.Recent.push.Goals as goal

pub overflow_add-self : goal.overflow_add-self
overflow_add-self g c =
    let slots = c.self.inside.slots.items in
    let few = filled_within (drop c.self.inside.gone slots) in
    let filled = c.self.invariant.1 in
    let left = length-drop c.self.inside.gone slots in
    let len = c.self.inside.slots.ok in
    let small = c.self.inside.slots.small in
    omega arith

pub invariant_of-self-2 : goal.invariant_of-self-2
invariant_of-self-2 g c =
    let slots = c.self.inside.slots.items in
    let gone = c.self.inside.gone in
    let stands = c.self.invariant.0 in
    let filled = c.self.invariant.1 in
    let long = length_push slots (Some c.args.value) in
    let more = ap how_many_filled (drop-append-le gone slots (Some c.args.value ∷ []) stands) ∙ filled_push (drop gone slots) c.args.value in
    rw c.in_ok-push.ensures.items (omega arith, omega arith)
