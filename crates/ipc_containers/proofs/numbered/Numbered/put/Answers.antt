use Rattle.std.proofs.Common.{◌++◌, ◌∙◌, Some, slice_get, length, refl, sym, ap, arith}
use Rattle.ipc_terms.proofs.Lists.{count_changed}
use Rattle.ipc_containers.specs.Slots.{how_many_filled}
use Rattle.ipc_containers.specs.Numbers.{older_slots}
use Rattle.ipc_containers.proofs.SlotsLemmas.{filled_put}
use Rattle.ipc_containers.proofs.NumbersLemmas.{recent_slot, recent_changed, value_changed, still_below, under}
use Rattle.ipc_containers.proofs.numbered.Numbered.put.Goals as goal

pub invariant_of-self-in_default : goal.invariant_of-self-in_default
invariant_of-self-in_default g c =
    let inside = c.self.inside in
    let less = under c.args.number inside.base c.in_default.ensures in
    let updates = c.in_ok-insert.ensures.updates.0 in
    let there = ap (λ slots. slice_get slots c.args.number) c.self.view_is ∙ c.requires in
    let is = value_changed (λ o. Some c.args.value) inside.older c.insert.new.self inside.recent inside.base c.args.number (Some c.args.value) less updates refl in
    let more = ap (λ slots. how_many_filled slots) is ∙ filled_put (older_slots inside.older inside.base ++ inside.recent) c.args.number c.args.value there in
    record {
      below = still_below inside.older c.insert.new.self inside.base c.args.number (Some c.args.value) less updates c.self.invariant.below;
      fits = c.self.invariant.fits;
      few = λ now. let few = c.self.invariant.few now in omega arith;
    }

pub returns-in_default-clause-ok : goal.returns-in_default-clause-ok
returns-in_default-clause-ok g c =
    let inside = c.self.inside in
    let less = under c.args.number inside.base c.in_default.ensures in
    rw (← c.self.view_is) (value_changed (λ o. Some c.args.value) inside.older c.insert.new.self inside.recent inside.base c.args.number (Some c.args.value) less c.in_ok-insert.ensures.updates.0 refl)

pub put-requires : goal.put-requires
put-requires g c =
    let inside = c.self.inside in
    let low = c.in-Some.ensures.0 in
    let slot = c.in-Some.ensures.1 in
    sym (recent_slot inside.older inside.recent inside.base c.in-Some.slot c.args.number (omega arith)) ∙ ap (λ slots. slice_get slots c.args.number) c.self.view_is ∙ c.requires

pub invariant_of-self-2 : goal.invariant_of-self-2
invariant_of-self-2 g c =
    let inside = c.self.inside in
    let older = older_slots inside.older inside.base in
    let low = c.in-Some.ensures.0 in
    let slot = c.in-Some.ensures.1 in
    let there = ap (λ slots. slice_get slots c.args.number) c.self.view_is ∙ c.requires in
    let long = ap (λ slots. length slots) c.put.ensures ∙ count_changed (λ o. Some c.args.value) inside.recent c.in-Some.slot in
    let is = ap (λ slots. older ++ slots) c.put.ensures ∙ sym (recent_changed (λ o. Some c.args.value) inside.older inside.recent inside.base c.in-Some.slot c.args.number (omega arith)) in
    let more = ap (λ slots. how_many_filled slots) is ∙ filled_put (older ++ inside.recent) c.args.number c.args.value there in
    let fits = c.self.invariant.fits in
    record { below = c.self.invariant.below; fits = omega arith; few = λ now. let few = c.self.invariant.few now in omega arith }

pub returns-clause-ok : goal.returns-clause-ok
returns-clause-ok g c =
    let inside = c.self.inside in
    let low = c.in-Some.ensures.0 in
    let slot = c.in-Some.ensures.1 in
    rw (← c.self.view_is) (ap (λ slots. older_slots inside.older inside.base ++ slots) c.put.ensures ∙ sym (recent_changed (λ o. Some c.args.value) inside.older inside.recent inside.base c.in-Some.slot c.args.number (omega arith)))
