-- What stands in the slots when one of them changes.
use Rattle.std.proofs.Common.{◌≡◌, ℕ, zero, suc, ◌<◌, ◌∙◌, Bool, true, false, eqb, cond, List, [], ◌∷◌, ◌++◌, length, slice_get, Option, Some, None, refl, sym, ap, subst, arith}
use Rattle.std.proofs.lemmas.Bool.{eq-eqb, ne_eqb}
use Rattle.std.proofs.lemmas.Bool.Decides.{nat_tests}
use Rattle.ipc_terms.proofs.Lists.{eqb_suc}
use Rattle.ipc_terms.specs.Lists.{changed}
use Rattle.ipc_containers.specs.Slots.{at, emptied}

-- a slot that changes becomes this, and each other stays
pub slot_is : {V X : Type 0} (g : Option V → X) (f : Option V → Option V) (xs : List (Option V)) (n : ℕ) (y : Option V) → slice_get xs n ≡ Some y → (s : ℕ) → g (at (changed f xs n) s) ≡ cond (eqb n s) (g (f y)) (g (at xs s))
slot_is g f [] n y e s = absurd cc
slot_is g f (x ∷ xs) zero y e zero = let is : x ≡ y = cc in ap (λ z. g (f z)) is ∙ ap (λ b. cond b (g (f y)) (g x)) (sym (eq-eqb 0 0 refl))
slot_is g f (x ∷ xs) zero y e (suc s) = ap (λ b. cond b (g (f y)) (g (at xs s))) (sym (ne_eqb 0 (suc s) (λ (q : 0 ≡ suc s). omega arith)))
slot_is g f (x ∷ xs) (suc n) y e zero = ap (λ b. cond b (g (f y)) (g x)) (sym (ne_eqb (suc n) 0 (λ (q : suc n ≡ 0). omega arith)))
slot_is g f (x ∷ xs) (suc n) y e (suc s) = slot_is g f xs n y e s ∙ ap (λ b. cond b (g (f y)) (g (at xs s))) (sym (eqb_suc n s))

-- what holds of the slot that changes, and of each that stays, holds of all
pub slot_each : {V : Type 0} (P : Option V → Option V → Type 0) (f : Option V → Option V) (xs : List (Option V)) (n : ℕ) (y : Option V) → slice_get xs n ≡ Some y → P y (f y) → ((x : Option V) → P x x) → (s : ℕ) → P (at xs s) (at (changed f xs n) s)
slot_each P f [] n y e here same s = absurd cc
slot_each P f (x ∷ xs) zero y e here same zero = subst (λ z. P z (f z)) (let is : y ≡ x = cc in is) here
slot_each P f (x ∷ xs) zero y e here same (suc s) = same (at xs s)
slot_each P f (x ∷ xs) (suc n) y e here same zero = same x
slot_each P f (x ∷ xs) (suc n) y e here same (suc s) = slot_each P f xs n y e here same s

-- a slot that is emptied may have changed before
pub emptied_after : {V : Type 0} (f : Option V → Option V) (xs : List (Option V)) (n : ℕ) → changed emptied (changed f xs n) n ≡ changed emptied xs n
emptied_after f [] n = refl
emptied_after f (x ∷ xs) zero = refl
emptied_after f (x ∷ xs) (suc n) = ap (λ ys. x ∷ ys) (emptied_after f xs n)

-- an empty slot at the end is none
pub at_pushed : {V : Type 0} (xs : List (Option V)) (s : ℕ) → at (xs ++ None ∷ []) s ≡ at xs s
at_pushed [] zero = refl
at_pushed [] (suc s) = refl
at_pushed (x ∷ xs) zero = refl
at_pushed (x ∷ xs) (suc s) = at_pushed xs s

-- a slot that there is, and has no value
pub slot_empty : {V : Type 0} (xs : List (Option V)) (n : ℕ) → n < length xs → at xs n ≡ None → slice_get xs n ≡ Some None
slot_empty [] n l e = absurd (omega arith)
slot_empty (x ∷ xs) zero l e = ap Some e
slot_empty (x ∷ xs) (suc n) l e = slot_empty xs n (omega arith) e

-- where it is the same slot, either name will do
pub alike : {X : Type 0} (f : ℕ → X) (n s : ℕ) (other : X) → cond (eqb n s) (f n) other ≡ cond (eqb n s) (f s) other
alike f n s other = by (eqb n s) refl where
  by : (b : Bool) → eqb n s ≡ b → cond b (f n) other ≡ cond b (f s) other
  by true test = ap f (let same : n ≡ s = grind (arith, nat_tests) in same)
  by false test = refl
