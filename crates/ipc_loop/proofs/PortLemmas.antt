-- Ports by their numbers.
use Rattle.std.proofs.Common.{◌≡◌, ℕ, zero, suc, Bool, true, false, ◌||◌, eqb, cond, List, [], ◌∷◌, ◌++◌, set, slice_get, Option, Some, refl, sym, ap, ◌∙◌, arith}
use Rattle.std.specs.Prelude.{unwrap_or}
use Rattle.std.proofs.lemmas.Bool.{eqb-true, eq-eqb, ne_eqb}
use Rattle.ipc_terms.proofs.Lists.{eqb_suc}
use Rattle.ipc_loop.specs.Ports.{Port, new_port, port_at, with_port, stands_in}

abbrev pub Slots : Type 0
Slots = List (Option Port)

pub get_set : {A : Type 0} (xs : List A) (i : ℕ) (x y : A) (j : ℕ) → slice_get xs i ≡ Some x → slice_get (set xs i y) j ≡ cond (eqb i j) (Some y) (slice_get xs j)
get_set [] i x y j e = absurd cc
get_set (z ∷ zs) zero x y zero e = refl
get_set (z ∷ zs) zero x y (suc j) e = let other : eqb 0 (suc j) ≡ false = ne_eqb 0 (suc j) (λ (q : 0 ≡ suc j). omega arith) in rw other refl
get_set (z ∷ zs) (suc i) x y zero e = let other : eqb (suc i) 0 ≡ false = ne_eqb (suc i) 0 (λ (q : suc i ≡ 0). omega arith) in rw other refl
get_set (z ∷ zs) (suc i) x y (suc j) e = get_set zs i x y j e ∙ ap (λ b. cond b (Some y) (slice_get zs j)) (sym (eqb_suc i j))

-- the slot of link k is given another port; d is what stands for links that are still to come
pub slot_set : (d : Option Port) (xs : Slots) (k : ℕ) (x y : Option Port) (i : ℕ) → slice_get xs k ≡ Some x → unwrap_or (slice_get (set xs k y) i) d ≡ with_port (λ (j : ℕ). unwrap_or (slice_get xs j) d) k y i
slot_set d xs k x y i e = ap (λ (s : Option (Option Port)). unwrap_or s d) (get_set xs k x y i e) ∙ either (eqb k i) where
  either : (here : Bool) → unwrap_or (cond here (Some y) (slice_get xs i)) d ≡ cond here y (unwrap_or (slice_get xs i) d)
  either true = refl
  either false = refl

-- it is seen among the ports
pub slot_here : (d : Option Port) (xs : Slots) (k : ℕ) (x : Option Port) (i : ℕ) → slice_get xs k ≡ Some x → unwrap_or (slice_get xs i) d ≡ with_port (λ (j : ℕ). unwrap_or (slice_get xs j) d) k x i
slot_here d xs k x i e = at (eqb k i) refl where
  at : (here : Bool) → eqb k i ≡ here → unwrap_or (slice_get xs i) d ≡ cond here x (unwrap_or (slice_get xs i) d)
  at true h = ap (λ (j : ℕ). unwrap_or (slice_get xs j) d) (sym (eqb-true k i h)) ∙ ap (λ (s : Option (Option Port)). unwrap_or s d) e
  at false h = refl

-- what is given last stays
pub set_twice : (xs : Slots) (k : ℕ) (x y : Option Port) → set (set xs k x) k y ≡ set xs k y
set_twice [] k x y = refl
set_twice (z ∷ zs) zero x y = refl
set_twice (z ∷ zs) (suc k) x y = ap (λ (ws : Slots). z ∷ ws) (set_twice zs k x y)

pub slot_now : (xs : Slots) (k : ℕ) (x y : Option Port) → slice_get xs k ≡ Some x → slice_get (set xs k y) k ≡ Some y
slot_now xs k x y e = get_set xs k x y k e ∙ ap (λ (b : Bool). cond b (Some y) (slice_get xs k)) (eq-eqb k k refl)

pub slot_other : (xs : Slots) (k : ℕ) (x y : Option Port) (i : ℕ) → slice_get xs k ≡ Some x → eqb k i ≡ false → slice_get (set xs k y) i ≡ slice_get xs i
slot_other xs k x y i e other = get_set xs k x y i e ∙ ap (λ (b : Bool). cond b (Some y) (slice_get xs i)) other

-- one more, new port
pub pushed_port : (xs : Slots) (i : ℕ) → port_at (xs ++ Some new_port ∷ []) i ≡ port_at xs i
pushed_port [] zero = refl
pushed_port [] (suc i) = refl
pushed_port (x ∷ xs) zero = refl
pushed_port (x ∷ xs) (suc i) = pushed_port xs i

-- ---- who stands in lists

or_first : (b : Bool) (x y z : Bool) → z ≡ (x || y) → cond b true z ≡ (cond b true x || y)
or_first true x y z e = refl
or_first false x y z e = e

pub stands_both : (i : ℕ) (xs ys : List ℕ) → stands_in i (xs ++ ys) ≡ (stands_in i xs || stands_in i ys)
stands_both i [] ys = refl
stands_both i (x ∷ xs) ys = or_first (eqb x i) (stands_in i xs) (stands_in i ys) (stands_in i (xs ++ ys)) (stands_both i xs ys)
