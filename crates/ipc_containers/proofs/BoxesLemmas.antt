-- Values in boxes: what their list has at a number, and a change of it.
use Rattle.std.proofs.Common.{◌≡◌, ◌-◌, ℕ, zero, suc, List, [], ◌∷◌, length, take, map, Option, Some, None, IsSome, option_map, subst, refl, sym, ap, ◌∙◌}
use Rattle.std.proofs.lemmas.List.{take-map, length-map}
use Rattle.ipc_terms.specs.Lists.{changed}
use Rattle.ipc_containers.specs.Slots.{at, IsNextFrom}

pub at_map : {X V : Type 0} (v : X → V) (xs : List (Option X)) (n : ℕ) → at (map (option_map v) xs) n ≡ option_map v (at xs n)
at_map v [] n = refl
at_map v (x ∷ xs) zero = refl
at_map v (x ∷ xs) (suc n) = at_map v xs n

pub changed_map : {X V : Type 0} (v : X → V) (f : Option X → Option X) (h : Option V → Option V) (xs : List (Option X)) (n : ℕ) → ((x : Option X) → option_map v (f x) ≡ h (option_map v x)) → map (option_map v) (changed f xs n) ≡ changed h (map (option_map v) xs) n
changed_map v f h [] n same = refl
changed_map v f h (x ∷ xs) zero same = ap (λ y. y ∷ map (option_map v) xs) (same x)
changed_map v f h (x ∷ xs) (suc n) same = ap (λ ys. option_map v x ∷ ys) (changed_map v f h xs n same)

-- all but the last
pub undone_map : {X V : Type 0} (v : X → V) (xs : List (Option X)) → map (option_map v) (take (length xs - 1) xs) ≡ take (length (map (option_map v) xs) - 1) (map (option_map v) xs)
undone_map v xs = sym (take-map (option_map v) (length xs - 1) xs) ∙ ap (λ n. take (n - 1) (map (option_map v) xs)) (sym (length-map xs (option_map v)))

some_map : {X V : Type 0} (v : X → V) (x : Option X) → IsSome x → IsSome (option_map v x)
some_map v None some = some
some_map v (Some x) some = refl

-- the next value is as far away
pub next_map : {X V : Type 0} (v : X → V) (xs : List (Option X)) (from : ℕ) (next : Option ℕ) → IsNextFrom xs from next → IsNextFrom (map (option_map v) xs) from next
next_map v xs from None is = λ n le. at_map v xs n ∙ ap (option_map v) (is n le)
next_map v xs from (Some next) is = (is.0, subst IsSome (sym (at_map v xs next)) (some_map v (at xs next) is.1), λ n le lt. at_map v xs n ∙ ap (option_map v) (is.2 n le lt))
