-- The first item of a list that passes a test: where it stands, what is found there, and what a change of it does.
use Rattle.std.proofs.Common.{◌≡◌, ℕ, zero, suc, ◌+◌, ◌<◌, Bool, true, false, cond, List, [], ◌∷◌, length, get_or, set, find, Some, None, refl, sym, ap, ◌∙◌, arith}
use Rattle.std.specs.List.{position, position_from}
use Rattle.std.proofs.lemmas.List.Quantifiers.{position-Some}
use Rattle.std.proofs.lemmas.Iterator.Adapters.{position_from-zero}
use Rattle.ipc_terms.specs.Lists.{changed_first}

-- where none passes
found_none : {X : Type 0} (p : X → Bool) (xs : List X) (i : ℕ) → position_from p i xs ≡ None → find p xs ≡ None
found_none p [] i e = refl
found_none {X = X} p (x ∷ xs) i e = at (p x) e (λ k. found_none p xs (i + 1) k) where
  at : (b : Bool) → cond b (Some i) (position_from p (i + 1) xs) ≡ None → (position_from p (i + 1) xs ≡ None → find p xs ≡ None) → cond b (Some x) (find p xs) ≡ None
  at true k rest = absurd cc
  at false k rest = rest k

changed_none : {X : Type 0} (p : X → Bool) (f : X → X) (xs : List X) (i : ℕ) → position_from p i xs ≡ None → changed_first p f xs ≡ xs
changed_none p f [] i e = refl
changed_none {X = X} p f (x ∷ xs) i e = at (p x) e (λ k. changed_none p f xs (i + 1) k) where
  at : (b : Bool) → cond b (Some i) (position_from p (i + 1) xs) ≡ None → (position_from p (i + 1) xs ≡ None → changed_first p f xs ≡ xs) → cond b (f x ∷ xs) (x ∷ changed_first p f xs) ≡ x ∷ xs
  at true k rest = absurd cc
  at false k rest = ap (λ l. x ∷ l) (rest k)

pub none_found : {X : Type 0} (p : X → Bool) (xs : List X) → position p xs ≡ None → find p xs ≡ None
none_found p xs e = found_none p xs 0 (sym (position_from-zero p xs) ∙ e)

pub none_changed : {X : Type 0} (p : X → Bool) (f : X → X) (xs : List X) → position p xs ≡ None → changed_first p f xs ≡ xs
none_changed p f xs e = changed_none p f xs 0 (sym (position_from-zero p xs) ∙ e)

-- where one passes
set_at : {X : Type 0} (p : X → Bool) (f : X → X) (xs : List X) (i : ℕ) (x : X) → i < length xs → x ≡ get_or xs i x → p (get_or xs i x) ≡ true → ((k : ℕ) → k < i → p (get_or xs k x) ≡ false) → set xs i (f x) ≡ changed_first p f xs
set_at p f [] i x lt e t none = absurd (omega arith)
set_at p f (y ∷ ys) zero x lt e t none = rw t (ap (λ z. f z ∷ ys) e)
set_at p f (y ∷ ys) (suc i) x lt e t none = rw (none zero (omega arith)) (ap (λ l. y ∷ l) (set_at p f ys i x (omega arith) e t (λ k less. none (suc k) (omega arith))))

find_at : {X : Type 0} (p : X → Bool) (xs : List X) (i : ℕ) (x : X) → i < length xs → x ≡ get_or xs i x → p (get_or xs i x) ≡ true → ((k : ℕ) → k < i → p (get_or xs k x) ≡ false) → find p xs ≡ Some x
find_at p [] i x lt e t none = absurd (omega arith)
find_at p (y ∷ ys) zero x lt e t none = rw t (ap Some (sym e))
find_at p (y ∷ ys) (suc i) x lt e t none = rw (none zero (omega arith)) (find_at p ys i x (omega arith) e t (λ k less. none (suc k) (omega arith)))

pub place_changed : {X : Type 0} (p : X → Bool) (f : X → X) (xs : List X) (i : ℕ) (x : X) → position p xs ≡ Some i → x ≡ get_or xs i x → set xs i (f x) ≡ changed_first p f xs
place_changed p f xs i x e is = let there = position-Some p xs i x e in set_at p f xs i x there.0 is there.1 there.2

pub place_found : {X : Type 0} (p : X → Bool) (xs : List X) (i : ℕ) (x : X) → position p xs ≡ Some i → x ≡ get_or xs i x → find p xs ≡ Some x
place_found p xs i x e is = let there = position-Some p xs i x e in find_at p xs i x there.0 is there.1 there.2
