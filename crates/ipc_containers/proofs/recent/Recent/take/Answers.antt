use Rattle.std.proofs.Common.{◌<◌, ◌∙◌, length, drop, sym, ap, Some, arith}
use Rattle.std.specs.Option.{option_copied_mut}
use Rattle.std.proofs.lemmas.List.{length-set}
use Rattle.ipc_containers.specs.Slots.{emptied}
use Rattle.ipc_containers.proofs.SlotsLemmas.{found_behind, set_behind, written, past, at_slot, filled_emptied}
use Rattle.ipc_containers.proofs.recent.Recent.take.Goals as goal

pub returns-in_err-get_mut-clause-rest : goal.returns-in_err-get_mut-clause-rest
returns-in_err-get_mut-clause-rest g c =
    let slots = c.self.inside.slots.items in
    let gone = c.self.inside.gone in
    let len = c.self.inside.slots.ok in
    let few : length slots < 9223372036854775808 = (let small = c.self.inside.slots.small in omega arith) in
    let spot = c.saturating_add-place.ensures in
    rw (← c.self.view_is) (sym (past emptied (drop gone slots) c.args.slot (found_behind slots gone c.args.slot _ _ spot few c.get_mut.ensures.item ∙ ap option_copied_mut c.in_err-get_mut.was)))

pub returns-in_err-value-clause-value : goal.returns-in_err-value-clause-value
returns-in_err-value-clause-value g c =
    let slots = c.self.inside.slots.items in
    let gone = c.self.inside.gone in
    let len = c.self.inside.slots.ok in
    let few : length slots < 9223372036854775808 = (let small = c.self.inside.slots.small in omega arith) in
    let spot = c.saturating_add-place.ensures in
    let there = found_behind slots gone c.args.slot _ _ spot few c.get_mut.ensures.item ∙ ap option_copied_mut c.in_ok-get_mut.was in
    rw (← c.self.view_is) (c.from_residual-in_err-value.ensures ∙ sym c.in_err-value.was ∙ c.take.ensures.value ∙ sym (at_slot (drop gone slots) c.args.slot _ there))

pub returns-in_err-value-clause-rest : goal.returns-in_err-value-clause-rest
returns-in_err-value-clause-rest g c =
    let slots = c.self.inside.slots.items in
    let gone = c.self.inside.gone in
    let len = c.self.inside.slots.ok in
    let few : length slots < 9223372036854775808 = (let small = c.self.inside.slots.small in omega arith) in
    let spot = c.saturating_add-place.ensures in
    let there = found_behind slots gone c.args.slot _ _ spot few c.get_mut.ensures.item ∙ ap option_copied_mut c.in_ok-get_mut.was in
    rw (← c.self.view_is) (set_behind slots gone c.args.slot _ _ _ spot few there ∙ written emptied (drop gone slots) c.args.slot _ _ there c.take.ensures.after)

pub overflow_sub-self : goal.overflow_sub-self
overflow_sub-self g c =
    let slots = c.self.inside.slots.items in
    let gone = c.self.inside.gone in
    let len = c.self.inside.slots.ok in
    let few : length slots < 9223372036854775808 = (let small = c.self.inside.slots.small in omega arith) in
    let spot = c.saturating_add-place.ensures in
    let there = found_behind slots gone c.args.slot _ _ spot few c.get_mut.ensures.item ∙ ap option_copied_mut c.in_ok-get_mut.was ∙ ap Some (sym c.take.ensures.value ∙ c.in_ok-value.was) in
    let less = filled_emptied (drop gone slots) c.args.slot _ there in
    let filled = c.self.invariant.1 in
    omega arith

pub invariant_of-self-2 : goal.invariant_of-self-2
invariant_of-self-2 g c =
    let slots = c.self.inside.slots.items in
    let gone = c.self.inside.gone in
    let len = c.self.inside.slots.ok in
    let few : length slots < 9223372036854775808 = (let small = c.self.inside.slots.small in omega arith) in
    let spot = c.saturating_add-place.ensures in
    let found = found_behind slots gone c.args.slot _ _ spot few c.get_mut.ensures.item ∙ ap option_copied_mut c.in_ok-get_mut.was in
    let there = found ∙ ap Some (sym c.take.ensures.value ∙ c.in_ok-value.was) in
    let less = filled_emptied (drop gone slots) c.args.slot _ there in
    let filled = c.self.invariant.1 in
    let after = set_behind slots gone c.args.slot _ _ _ spot few found ∙ written emptied (drop gone slots) c.args.slot _ _ found c.take.ensures.after in
    ((let same = length-set slots c.saturating_add-place.result c.take.new.self in let left = c.self.invariant.0 in omega arith), rw after (omega arith))

pub returns-clause-value : goal.returns-clause-value
returns-clause-value g c =
    let slots = c.self.inside.slots.items in
    let gone = c.self.inside.gone in
    let len = c.self.inside.slots.ok in
    let few : length slots < 9223372036854775808 = (let small = c.self.inside.slots.small in omega arith) in
    let spot = c.saturating_add-place.ensures in
    let there = found_behind slots gone c.args.slot _ _ spot few c.get_mut.ensures.item ∙ ap option_copied_mut c.in_ok-get_mut.was in
    rw (← c.self.view_is) (sym c.in_ok-value.was ∙ c.take.ensures.value ∙ sym (at_slot (drop gone slots) c.args.slot _ there))

pub returns-clause-rest : goal.returns-clause-rest
returns-clause-rest g c =
    let slots = c.self.inside.slots.items in
    let gone = c.self.inside.gone in
    let len = c.self.inside.slots.ok in
    let few : length slots < 9223372036854775808 = (let small = c.self.inside.slots.small in omega arith) in
    let spot = c.saturating_add-place.ensures in
    let there = found_behind slots gone c.args.slot _ _ spot few c.get_mut.ensures.item ∙ ap option_copied_mut c.in_ok-get_mut.was in
    rw (← c.self.view_is) (set_behind slots gone c.args.slot _ _ _ spot few there ∙ written emptied (drop gone slots) c.args.slot _ _ there c.take.ensures.after)
