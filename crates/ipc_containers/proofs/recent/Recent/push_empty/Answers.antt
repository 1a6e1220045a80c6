use Rattle.std.proofs.Common.{◌∙◌, [], ◌∷◌, None, drop, ap, arith}
use Rattle.std.proofs.lemmas.List.{length_push, drop-append-le}
use Rattle.ipc_containers.specs.Slots.{how_many_filled}
use Rattle.ipc_containers.proofs.SlotsLemmas.{filled_more}
use Rattle.ipc_containers.proofs.recent.Recent.push_empty.Goals as goal

pub invariant_of-self-2 : goal.invariant_of-self-2
invariant_of-self-2 g c =
    let slots = c.self.inside.slots.items in
    let gone = c.self.inside.gone in
    let stands = c.self.invariant.0 in
    let filled = c.self.invariant.1 in
    let long = length_push slots None in
    let same = ap how_many_filled (drop-append-le gone slots (None ∷ []) stands) ∙ filled_more (drop gone slots) in
    rw c.in_ok-push.ensures.items (omega arith, omega arith)
