-- Lists whose items have places: what is found at a place, and that places rise.
use Rattle.std.proofs.Common.{◌≡◌, ℕ, ◌+◌, ◌<◌, ◌≤◌, Bool, true, false, not, eqb, List, [], ◌∷◌, ◌++◌, cond, Option, Some, None, refl, sym, ap, ◌∙◌, arith}
use Rattle.std.specs.Prelude.{filter}
use Rattle.std.specs.Option.{option_or}
use Rattle.std.proofs.lemmas.Bool.{eqb-true, eqb-false, eq-eqb, ne_eqb}
use Rattle.ipc_terms.specs.Lists.{first}
use Rattle.ipc_policy.specs.Decides.History.{unless}
use Rattle.ipc_policy.specs.Decides.Queues.{tail}
use Rattle.ipc_policy.specs.Decides.Parking.{stands_at}
use Rattle.ipc_policy.specs.Follows.Readings.{of_place, Rising}

pub rising_lower : {A : Type 0} (place : A → ℕ) (lo lo' : ℕ) (xs : List A) (hi : ℕ) → lo' ≤ lo → Rising place lo xs hi → Rising place lo' xs hi
rising_lower place lo lo' [] hi le h = omega arith
rising_lower place lo lo' (x ∷ xs) hi le h = (omega arith, h.1)

pub rising_higher : {A : Type 0} (place : A → ℕ) (lo : ℕ) (xs : List A) (hi hi' : ℕ) → hi ≤ hi' → Rising place lo xs hi → Rising place lo xs hi'
rising_higher place lo [] hi hi' le h = omega arith
rising_higher place lo (x ∷ xs) hi hi' le h = (h.0, rising_higher place (place x + 1) xs hi hi' le h.1)

pub rising_append : {A : Type 0} (place : A → ℕ) (lo : ℕ) (xs : List A) (hi : ℕ) (m : A) → place m ≡ hi → Rising place lo xs hi → Rising place lo (xs ++ m ∷ []) (hi + 1)
rising_append place lo [] hi m e h = (omega arith, omega arith)
rising_append place lo (x ∷ xs) hi m e h = (h.0, rising_append place (place x + 1) xs hi m e h.1)

pub rising_behind : {A : Type 0} (place : A → ℕ) (lo : ℕ) (xs : List A) (hi : ℕ) → Rising place lo xs hi → Rising place lo (tail xs) hi
rising_behind place lo [] hi h = h
rising_behind place lo (x ∷ xs) hi h = rising_lower place (place x + 1) lo xs hi (omega arith) h.1

pub rising_filter : {A : Type 0} (place : A → ℕ) (p : A → Bool) (lo : ℕ) (xs : List A) (hi : ℕ) → Rising place lo xs hi → Rising place lo (filter p xs) hi
rising_filter place p lo [] hi h = h
rising_filter place p lo (x ∷ xs) hi h = more (p x) (rising_filter place p (place x + 1) xs hi h.1) where
  more : (b : Bool) → Rising place (place x + 1) (filter p xs) hi → Rising place lo (cond b (x ∷ filter p xs) (filter p xs)) hi
  more true k = (h.0, k)
  more false k = rising_lower place (place x + 1) lo (filter p xs) hi (omega arith) k

-- nothing is found below where the places begin
pub found_below : {A : Type 0} (place : A → ℕ) (lo i : ℕ) (xs : List A) (hi : ℕ) → i < lo → Rising place lo xs hi → of_place place i xs ≡ None
found_below place lo i [] hi lt h = refl
found_below place lo i (x ∷ xs) hi lt h =
    let no : eqb (place x) i ≡ false = ne_eqb _ _ (λ (q : place x ≡ i). absurd (omega arith)) in
    let rest = found_below place (place x + 1) i xs hi (omega arith) h.1 in
    rw no rest

pub rising_le : {A : Type 0} (place : A → ℕ) (lo : ℕ) (xs : List A) (hi : ℕ) → Rising place lo xs hi → lo ≤ hi
rising_le place lo [] hi h = h
rising_le place lo (x ∷ xs) hi h = omega (arith, h.0, rising_le place (place x + 1) xs hi h.1)

-- nor where they end
pub found_above : {A : Type 0} (place : A → ℕ) (lo i : ℕ) (xs : List A) (hi : ℕ) → hi ≤ i → Rising place lo xs hi → of_place place i xs ≡ None
found_above place lo i [] hi le h = refl
found_above place lo i (x ∷ xs) hi le h =
    let below : place x + 1 ≤ hi = rising_le place (place x + 1) xs hi h.1 in
    let no : eqb (place x) i ≡ false = ne_eqb _ _ (λ (q : place x ≡ i). absurd (omega arith)) in
    let rest = found_above place (place x + 1) i xs hi le h.1 in
    rw no rest

pub found_append : {A : Type 0} (place : A → ℕ) (i : ℕ) (xs : List A) (m : A) → of_place place i (xs ++ m ∷ []) ≡ option_or (of_place place i xs) (cond (eqb (place m) i) (Some m) None)
found_append place i [] m = refl
found_append place i (x ∷ xs) m = at (eqb (place x) i) (found_append place i xs m) where
  at : (b : Bool) → of_place place i (xs ++ m ∷ []) ≡ option_or (of_place place i xs) (cond (eqb (place m) i) (Some m) None) → cond b (Some x) (of_place place i (xs ++ m ∷ [])) ≡ option_or (cond b (Some x) (of_place place i xs)) (cond (eqb (place m) i) (Some m) None)
  at true e = refl
  at false e = e

-- what is found at a place has that place
pub found_place : {A : Type 0} (place : A → ℕ) (i : ℕ) (xs : List A) (m : A) → of_place place i xs ≡ Some m → place m ≡ i
found_place place i [] m e = absurd cc
found_place place i (x ∷ xs) m e = at (found_place place i xs m) (eqb (place x) i) refl e where
  at : (of_place place i xs ≡ Some m → place m ≡ i) → (b : Bool) → eqb (place x) i ≡ b → cond b (Some x) (of_place place i xs) ≡ Some m → place m ≡ i
  at rest true k j = let same : x ≡ m = cc in ap place (sym same) ∙ eqb-true _ _ k
  at rest false k j = rest j

kept_none : {A : Type 0} (p : A → Bool) (o : Option A) → ((x : A) → o ≡ Some x → p x ≡ false) → unless p o ≡ o
kept_none p None h = refl
kept_none p (Some x) h = rw (h x refl) refl

kept_here : {A : Type 0} (p : A → Bool) (x : A) → p x ≡ true → unless p (Some x) ≡ None
kept_here p x e = rw e refl

pub found_behind : {A : Type 0} (place : A → ℕ) (lo i : ℕ) (xs : List A) (hi : ℕ) → Rising place lo xs hi → of_place place i (tail xs) ≡ unless (λ m. stands_at place (place m) (first xs)) (of_place place i xs)
found_behind place lo i [] hi h = refl
found_behind place lo i (x ∷ xs) hi h = at (eqb (place x) i) refl where
  at : (b : Bool) → eqb (place x) i ≡ b → of_place place i xs ≡ unless (λ m. eqb (place x) (place m)) (cond b (Some x) (of_place place i xs))
  at true e =
      let same : place x ≡ i = eqb-true _ _ e in
      found_below place (place x + 1) i xs hi (omega arith) h.1 ∙ sym (kept_here (λ m. eqb (place x) (place m)) x (eq-eqb _ _ refl))
  at false e = sym (kept_none (λ m. eqb (place x) (place m)) (of_place place i xs) (λ m found. ne_eqb _ _ (λ q. eqb-false _ _ e (q ∙ found_place place i xs m found))))

pub found_filter : {A : Type 0} (place : A → ℕ) (p : A → Bool) (lo i : ℕ) (xs : List A) (hi : ℕ) → Rising place lo xs hi → of_place place i (filter (λ m. not (p m)) xs) ≡ unless p (of_place place i xs)
found_filter place p lo i [] hi h = refl
found_filter place p lo i (x ∷ xs) hi h = at (p x) refl (eqb (place x) i) refl (found_filter place p (place x + 1) i xs hi h.1) where
  at : (b : Bool) → p x ≡ b → (d : Bool) → eqb (place x) i ≡ d → of_place place i (filter (λ m. not (p m)) xs) ≡ unless p (of_place place i xs) → of_place place i (cond (not b) (x ∷ filter (λ m. not (p m)) xs) (filter (λ m. not (p m)) xs)) ≡ unless p (cond d (Some x) (of_place place i xs))
  at true k true e rest =
      let same : place x ≡ i = eqb-true _ _ e in
      let none : of_place place i xs ≡ None = found_below place (place x + 1) i xs hi (omega arith) h.1 in
      rest ∙ ap (unless p) none ∙ sym (kept_here p x k)
  at true k false e rest = rest
  at false k true e rest = rw (e, k) refl
  at false k false e rest = rw e rest
