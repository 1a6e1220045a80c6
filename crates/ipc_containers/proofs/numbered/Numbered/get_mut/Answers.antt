use Rattle.std.proofs.Common.{◌++◌, ◌∙◌, Some, length, refl, sym, ap, arith}
use Rattle.std.specs.Option.{option_copied_mut}
use Rattle.ipc_terms.proofs.Lists.{count_changed}
use Rattle.ipc_containers.specs.Numbers.{older_slots}
use Rattle.ipc_containers.specs.Slots.{how_many_filled}
use Rattle.ipc_containers.proofs.SlotsLemmas.{if_lent, some_found, slot_at, filled_append, filled_changed}
use Rattle.ipc_containers.proofs.NumbersLemmas.{recent_at, recent_changed, value_at, value_changed, keys_below, same_most, under}
use Rattle.ipc_containers.proofs.numbered.Numbered.get_mut.Goals as goal

pub invariant_of-self-lent-in-None : goal.invariant_of-self-lent-in-None
invariant_of-self-lent-in-None g c =
    let inside = c.self.inside in
    λ r. (
      (λ w. let same = (c.get_mut-in-None.follows.holds w).1 in record {
        below = keys_below inside.older (c.get_mut-in-None.follows.lender w) inside.base same c.self.invariant.below;
        fits = c.self.invariant.fits;
        few = λ now. (let most = same_most inside.older (c.get_mut-in-None.follows.lender w) inside.base inside.recent same in let few = c.self.invariant.few now in omega arith);
      }),
      rw c.get_mut-in-None.follows.holds-at-none c.self.invariant,
    )

pub invariant_of-self-lent : goal.invariant_of-self-lent
invariant_of-self-lent g c w =
    let inside = c.self.inside in
    let older = older_slots inside.older inside.base in
    let slot = c.in-Some.slot in
    let there = slot_at inside.recent slot c.in_ok-value-in-Some.value.now (sym c.get_mut.ensures.value ∙ ap option_copied_mut c.in_ok-value-in-Some.was) in
    let is = rw c.in_ok-value-in-Some.was at (c.get_mut.follows.holds w) in
    let long = ap (λ slots. length slots) is ∙ count_changed (λ o. Some w) inside.recent slot in
    let filled = ap (λ slots. how_many_filled slots) is ∙ filled_changed inside.recent slot c.in_ok-value-in-Some.value.now w there in
    let before = filled_append older inside.recent in
    let after = filled_append older (c.get_mut.follows.lender w) in
    let fits = c.self.invariant.fits in
    record { below = c.self.invariant.below; fits = omega arith; few = λ now. let few = c.self.invariant.few now in omega arith }

pub returns-in_err-value-in-Some : goal.returns-in_err-value-in-Some
returns-in_err-value-in-Some g c =
    let inside = c.self.inside in
    let slot = c.in-Some.ensures.1 in
    let same = ap (λ slots. older_slots inside.older inside.base ++ slots) c.get_mut.follows.holds-at-none ∙ c.self.view_is in
    let none = sym c.get_mut.ensures.value ∙ ap option_copied_mut c.in_err-value-in-Some.was in
    rw (c.from_residual.ensures, ← c.self.view_is) (
      (refl, (λ w. tt), rw c.self.view_is same),
      record { writes_back = tt; value = sym (recent_at inside.older inside.recent inside.base c.in-Some.slot c.args.number (omega arith) ∙ none) },
    )

pub returns-in_ok-value-in-Some : goal.returns-in_ok-value-in-Some
returns-in_ok-value-in-Some g c =
    let inside = c.self.inside in
    let slot = c.in-Some.ensures.1 in
    let there = sym c.get_mut.ensures.value ∙ ap option_copied_mut c.in_ok-value-in-Some.was in (
      (
        refl,
        (λ w. rw (← c.self.view_is) (ap (λ slots. older_slots inside.older inside.base ++ slots) (rw c.in_ok-value-in-Some.was at (c.get_mut.follows.holds w)) ∙ sym (recent_changed (λ o. Some w) inside.older inside.recent inside.base c.in-Some.slot c.args.number (omega arith)))),
        refl,
      ),
      record { writes_back = tt; value = rw (← c.self.view_is) (sym (recent_at inside.older inside.recent inside.base c.in-Some.slot c.args.number (omega arith) ∙ there)) },
    )

pub returns-in-None : goal.returns-in-None
returns-in-None g c =
    let inside = c.self.inside in
    let less = under c.args.number inside.base c.in-None.ensures in
    let lent = c.get_mut-in-None in (
      (
        refl,
        (λ w. if_lent lent.result _ lent.ensures.value (λ x here. rw (← c.self.view_is) (value_changed (λ o. Some w) inside.older (lent.follows.lender w) inside.recent inside.base c.args.number (Some w) less ((lent.follows.holds w).3 (some_found _ x here)).0 refl))),
        ap (λ older. older_slots older inside.base ++ inside.recent) lent.follows.holds-at-none ∙ c.self.view_is,
      ),
      record { writes_back = tt; value = rw (← c.self.view_is) (lent.ensures.value ∙ sym (value_at inside.older inside.recent inside.base c.args.number less)) },
    )
