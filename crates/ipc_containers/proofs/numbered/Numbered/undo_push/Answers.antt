use Rattle.std.proofs.Common.{◌≡◌, ◌+◌, ◌-◌, ◌++◌, ◌∙◌, length, ap, subst, ℕ, arith}
use Rattle.std.proofs.lemmas.List.{length-take}
use Rattle.ipc_containers.specs.Slots.{most_slots}
use Rattle.ipc_containers.specs.Numbers.{older_slots, AllBelow}
use Rattle.ipc_containers.proofs.SlotsLemmas.{filled_take}
use Rattle.ipc_containers.proofs.NumbersLemmas.{all_length, removed_below, popped, older_popped, none_popped, under}
use Rattle.ipc_containers.proofs.numbered.Numbered.undo_push.Goals as goal

pub invariant_of-self : goal.invariant_of-self
invariant_of-self g c =
    let inside = c.self.inside in
    let new = c.settle.new in
    let all = older_slots inside.older inside.base ++ inside.recent in
    let left = older_slots new.older new.base ++ new.recent in
    let some = c.pop.ensures.some c.if-pop.true in
    let undone = ap (λ slots. older_slots inside.older inside.base ++ slots) c.pop.ensures.rest ∙ popped inside.older inside.recent inside.base some in
    let rest = c.settle.ensures.values ∙ undone in
    let same = ap (λ slots. length slots) rest ∙ length-take (length all - 1) all in
    let before = all_length inside.older inside.recent inside.base in
    let after = all_length new.older new.recent new.base in
    let short = ap (λ slots. length slots) c.pop.ensures.rest ∙ length-take (length inside.recent - 1) inside.recent in
    let fits = c.self.invariant.fits in
    let most = ap (λ slots. most_slots slots) rest in
    let first = ap (λ slots. most_slots slots) c.settle.ensures.values in
    let one = filled_take (length all - 1) all in
    record {
      below = c.settle.ensures.below;
      fits = omega arith;
      few = λ now. c.settle.ensures.two_fewer (most_slots left) (omega arith) (λ was. let few = c.self.invariant.few was in omega arith) now;
    }

pub returns-then-pop : goal.returns-then-pop
returns-then-pop g c =
    let inside = c.self.inside in
    rw (← c.self.view_is) (c.settle.ensures.values ∙ ap (λ slots. older_slots inside.older inside.base ++ slots) c.pop.ensures.rest ∙ popped inside.older inside.recent inside.base (c.pop.ensures.some c.if-pop.true))

pub invariant_of-self-in-Some : goal.invariant_of-self-in-Some
invariant_of-self-in-Some g c =
    let inside = c.self.inside in
    let low = c.in-Some.ensures.0 in
    let less = c.in-Some.ensures.1 in
    let next : inside.base ≡ c.in-Some.last + 1 = omega arith in
    let none = c.pop.ensures.none c.if-pop.false in
    let empty = ap (λ slots. length slots) c.pop.ensures.rest ∙ length-take (length inside.recent - 1) inside.recent in
    let fits = c.self.invariant.fits in
    record {
      below = removed_below inside.older c.remove.new.self c.in-Some.last c.remove.ensures.updates.0 (subst (λ (n : ℕ). AllBelow inside.older n) next c.self.invariant.below);
      fits = omega arith;
      few = λ now. omega arith;
    }

pub returns-in-Some : goal.returns-in-Some
returns-in-Some g c =
    let inside = c.self.inside in
    let low = c.in-Some.ensures.0 in
    let less = c.in-Some.ensures.1 in
    rw (← c.self.view_is) (ap (λ slots. older_slots c.remove.new.self c.in-Some.last ++ slots) c.pop.ensures.rest ∙ older_popped inside.older c.remove.new.self inside.recent inside.base c.in-Some.last (c.pop.ensures.none c.if-pop.false) (omega arith) c.remove.ensures.updates.0)

pub returns-in_default : goal.returns-in_default
returns-in_default g c =
    let inside = c.self.inside in
    let least = under inside.base 1 c.in_default.ensures in
    rw (← c.self.view_is) (ap (λ slots. older_slots inside.older inside.base ++ slots) c.pop.ensures.rest ∙ none_popped inside.older inside.recent inside.base (c.pop.ensures.none c.if-pop.false) (omega arith))
