use Rattle.std.proofs.Common.{◌<◌, ◌≤◌, ◌∙◌, length, set, drop, sym, ap, refl, Some, arith}
use Rattle.std.specs.Option.{option_copied_mut}
use Rattle.std.proofs.lemmas.List.{length-set}
use Rattle.ipc_containers.specs.Slots.{how_many_filled}
use Rattle.ipc_containers.proofs.SlotsLemmas.{found_behind, set_behind, written, unwritten, at_slot, filled_changed}
use Rattle.ipc_containers.proofs.recent.Recent.get_mut.Goals as goal

pub invariant_of-self-lent : goal.invariant_of-self-lent
invariant_of-self-lent g c w =
    let slots = c.self.inside.slots.items in
    let gone = c.self.inside.gone in
    let len = c.self.inside.slots.ok in
    let few : length slots < 9223372036854775808 = (let small = c.self.inside.slots.small in omega arith) in
    let spot = c.saturating_add-place.ensures in
    let there = found_behind slots gone c.args.slot _ _ spot few c.get_mut.ensures.item ∙ ap option_copied_mut c.in_ok-value.was in
    let after = set_behind slots gone c.args.slot _ (Some w) _ spot few there ∙ written (λ x. Some w) (drop gone slots) c.args.slot (Some w) _ there refl in
    let within : gone ≤ length (set slots c.saturating_add-place.result (Some w)) = (let same = length-set slots c.saturating_add-place.result (Some w) in let left = c.self.invariant.0 in omega arith) in
    rw c.in-Some.is (within, c.self.invariant.1 ∙ sym (ap how_many_filled after ∙ filled_changed (drop gone slots) c.args.slot _ w (there ∙ ap Some c.in-Some.is)))

pub returns-in-Some : goal.returns-in-Some
returns-in-Some g c =
    let slots = c.self.inside.slots.items in
    let gone = c.self.inside.gone in
    let len = c.self.inside.slots.ok in
    let few : length slots < 9223372036854775808 = (let small = c.self.inside.slots.small in omega arith) in
    let spot = c.saturating_add-place.ensures in
    let there = found_behind slots gone c.args.slot _ _ spot few c.get_mut.ensures.item ∙ ap option_copied_mut c.in_ok-value.was in (
      (refl, (λ w. rw (← c.self.view_is, c.in-Some.is) (set_behind slots gone c.args.slot _ (Some w) _ spot few there ∙ written (λ x. Some w) (drop gone slots) c.args.slot _ _ there refl)), refl),
      record { writes_back = tt; value = rw (← c.self.view_is, c.in-Some.is) (sym (at_slot (drop gone slots) c.args.slot _ there ∙ c.in-Some.is)) },
    )

pub returns-in-None : goal.returns-in-None
returns-in-None g c =
    let slots = c.self.inside.slots.items in
    let gone = c.self.inside.gone in
    let len = c.self.inside.slots.ok in
    let few : length slots < 9223372036854775808 = (let small = c.self.inside.slots.small in omega arith) in
    let spot = c.saturating_add-place.ensures in
    let there = found_behind slots gone c.args.slot _ _ spot few c.get_mut.ensures.item ∙ ap option_copied_mut c.in_ok-value.was in (
      (refl, (λ w. tt), rw (← c.self.view_is) (set_behind slots gone c.args.slot _ _ _ spot few there ∙ unwritten (drop gone slots) c.args.slot _ there)),
      record { writes_back = tt; value = rw (← c.self.view_is) (sym (at_slot (drop gone slots) c.args.slot _ there ∙ c.in-None.is)) },
    )
