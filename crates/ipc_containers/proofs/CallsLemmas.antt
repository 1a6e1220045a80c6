-- Lists of timed calls, in two parts.
use Rattle.std.proofs.Common.{◌≡◌, ℕ, ◌<◌, ◌≤◌, Bool, true, false, not, ◌||◌, eqb, List, [], ◌∷◌, ◌++◌, length, cond, Some, refl, ap, ◌∙◌, sym, arith}
use Rattle.std.specs.Prelude.{find, nat_le, min}
use Rattle.std.specs.List.{list_any}
use Rattle.std.proofs.lemmas.Bool.{ne_eqb}
use Rattle.ipc_containers.specs.declared.timed.Timed.{Timed}
use Rattle.ipc_containers.specs.Calls.{is_over, without, AllBelow, AllFrom, IsLeast}

-- the first that is over stands in the left part, if one does there
pub found_left : (test : Timed → Bool) (l r : List Timed) → list_any test l ≡ true → find test (l ++ r) ≡ find test l
found_left test [] r e = absurd cc
found_left test (x ∷ l) r e = at (test x) e (found_left test l r) where
  at : (b : Bool) → (b || list_any test l) ≡ true → (list_any test l ≡ true → find test (l ++ r) ≡ find test l) → cond b (Some x) (find test (l ++ r)) ≡ cond b (Some x) (find test l)
  at true k rest = refl
  at false k rest = rest k

pub found_right : (test : Timed → Bool) (l r : List Timed) → list_any test l ≡ false → find test (l ++ r) ≡ find test r
found_right test [] r e = refl
found_right test (x ∷ l) r e = at (test x) e (found_right test l r) where
  at : (b : Bool) → (b || list_any test l) ≡ false → (list_any test l ≡ false → find test (l ++ r) ≡ find test r) → cond b (Some x) (find test (l ++ r)) ≡ find test r
  at true k rest = absurd cc
  at false k rest = rest k

any_both : (test : Timed → Bool) (l r : List Timed) → list_any test (l ++ r) ≡ (list_any test l || list_any test r)
any_both test [] r = refl
any_both test (x ∷ l) r = at (test x) (any_both test l r) where
  at : (b : Bool) → list_any test (l ++ r) ≡ (list_any test l || list_any test r) → (b || list_any test (l ++ r)) ≡ ((b || list_any test l) || list_any test r)
  at true e = refl
  at false e = e

-- the least of two
least_test : (a b m : ℕ) → nat_le (min a b) m ≡ (nat_le a m || nat_le b m)
least_test a b m = grind (arith)

pub least_both : (a b : ℕ) (l r : List Timed) → IsLeast a l → IsLeast b r → IsLeast (min a b) (l ++ r)
least_both a b l r p q = λ m. least_test a b m ∙ ap (λ x. x || nat_le b m) (p m) ∙ ap (λ x. list_any (is_over m) l || x) (q m) ∙ sym (any_both (is_over m) l r)

-- places below and from on
pub below_higher : (m n : ℕ) (l : List Timed) → m ≤ n → AllBelow m l → AllBelow n l
below_higher m n [] le all = tt
below_higher m n (x ∷ l) le all = ((let lt = all.0 in omega arith), below_higher m n l le all.1)

pub below_both : (n : ℕ) (l r : List Timed) → AllBelow n l → AllBelow n r → AllBelow n (l ++ r)
below_both n [] r p q = q
below_both n (x ∷ l) r p q = (p.0, below_both n l r p.1 q)

pub below_right : (n : ℕ) (l r : List Timed) → AllBelow n (l ++ r) → AllBelow n r
below_right n [] r p = p
below_right n (x ∷ l) r p = below_right n l r p.1

pub from_both : (n : ℕ) (l r : List Timed) → AllFrom n l → AllFrom n r → AllFrom n (l ++ r)
from_both n [] r p q = q
from_both n (x ∷ l) r p q = (p.0, from_both n l r p.1 q)

-- where there is a call from the middle on and all of them are below a place, so is the middle
pub middle_below : (m n : ℕ) (r : List Timed) → 1 ≤ length r → AllFrom m r → AllBelow n r → m < n
middle_below m n [] some p q = absurd (omega arith)
middle_below m n (x ∷ r) some p q = let le = p.0 in let lt = q.0 in omega arith

or_none : (b : Bool) → b ≡ (b || false)
or_none true = refl
or_none false = refl

pub least_one : (call : Timed) → IsLeast call.deadline (call ∷ [])
least_one call = λ m. or_none (nat_le call.deadline m)

-- what taking out a place leaves
pub without_both : (p : ℕ) (l r : List Timed) → without p (l ++ r) ≡ without p l ++ without p r
without_both p [] r = refl
without_both p (x ∷ l) r = at (not (eqb x.place p)) (without_both p l r) where
  at : (b : Bool) → without p (l ++ r) ≡ without p l ++ without p r → cond b (x ∷ without p (l ++ r)) (without p (l ++ r)) ≡ cond b (x ∷ without p l) (without p l) ++ without p r
  at true e = ap (λ y. x ∷ y) e
  at false e = e

pub without_from : (p m : ℕ) (l : List Timed) → p < m → AllFrom m l → without p l ≡ l
without_from p m [] lt all = refl
without_from p m (x ∷ l) lt all =
    let le = all.0 in
    let other : eqb x.place p ≡ false = ne_eqb _ _ (λ (e : x.place ≡ p). absurd (omega arith)) in
    rw other (ap (λ y. x ∷ y) (without_from p m l lt all.1))

pub without_below : (p m : ℕ) (l : List Timed) → m ≤ p → AllBelow m l → without p l ≡ l
without_below p m [] le all = refl
without_below p m (x ∷ l) le all =
    let lt = all.0 in
    let other : eqb x.place p ≡ false = ne_eqb _ _ (λ (e : x.place ≡ p). absurd (omega arith)) in
    rw other (ap (λ y. x ∷ y) (without_below p m l le all.1))

pub below_without : (p m : ℕ) (l : List Timed) → AllBelow m l → AllBelow m (without p l)
below_without p m [] all = tt
below_without p m (x ∷ l) all = at (not (eqb x.place p)) (below_without p m l all.1) where
  at : (b : Bool) → AllBelow m (without p l) → AllBelow m (cond b (x ∷ without p l) (without p l))
  at true rest = (all.0, rest)
  at false rest = rest

pub from_without : (p m : ℕ) (l : List Timed) → AllFrom m l → AllFrom m (without p l)
from_without p m [] all = tt
from_without p m (x ∷ l) all = at (not (eqb x.place p)) (from_without p m l all.1) where
  at : (b : Bool) → AllFrom m (without p l) → AllFrom m (cond b (x ∷ without p l) (without p l))
  at true rest = (all.0, rest)
  at false rest = rest
