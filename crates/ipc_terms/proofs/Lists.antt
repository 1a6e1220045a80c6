-- What is looked up and counted in a list, and what a push does to it.
use Rattle.std.proofs.Common.{◌≡◌, ℕ, zero, suc, ◌+◌, ◌<◌, ◌≤◌, Bool, true, false, ◌||◌, eqb, cond, List, [], ◌∷◌, ◌++◌, length, find, count_by, get_or, set, slice_get, Option, Some, None, refl, sym, ap, ◌∙◌, arith}
use Rattle.std.specs.List.{list_any}
use Rattle.std.specs.Option.{option_or, option_map}
use Rattle.std.proofs.lemmas.Bool.Decides.{nat_tests}
use Rattle.std.proofs.lemmas.Bool.{eq-eqb, ne_eqb, or_left, or_right}
use Rattle.std.proofs.lemmas.List.Recursion.{is_count_by}
use Rattle.ipc_terms.specs.Lists.{changed}

-- how many pass the test, one by one
abbrev pub counted : {X : Type 0} → (X → Bool) → List X → ℕ
counted p [] = 0
counted p (x ∷ xs) = cond (p x) (1 + counted p xs) (counted p xs)

pub counted_is : {X : Type 0} (p : X → Bool) (xs : List X) → count_by p xs ≡ counted p xs
counted_is p xs = sym (is_count_by (counted p) p refl (λ x xs. refl) xs)

pub eqb_suc : (a b : ℕ) → eqb (suc a) (suc b) ≡ eqb a b
eqb_suc a b = grind (arith, nat_tests)

-- the last item stands at the length
pub slice_get_push : {X : Type 0} (xs : List X) (x : X) (i : ℕ) → slice_get (xs ++ x ∷ []) i ≡ option_or (cond (eqb (length xs) i) (Some x) None) (slice_get xs i)
slice_get_push [] x zero = refl
slice_get_push [] x (suc i) = rw (ne_eqb 0 (suc i) (λ (q : 0 ≡ suc i). omega arith)) refl
slice_get_push (y ∷ ys) x zero = rw (ne_eqb (suc (length ys)) 0 (λ (q : suc (length ys) ≡ 0). omega arith)) refl
slice_get_push (y ∷ ys) x (suc i) = rw (eqb_suc (length ys) i) (slice_get_push ys x i)

-- past the end stands nothing
pub slice_past : {X : Type 0} (xs : List X) (i : ℕ) → length xs ≤ i → slice_get xs i ≡ None
slice_past [] i le = refl
slice_past (x ∷ xs) zero le = absurd (omega arith)
slice_past (x ∷ xs) (suc i) le = slice_past xs i (omega arith)

map_or : {X Y : Type 0} (f : X → Y) (b : Bool) (x : X) (o : Option X) → option_map f (option_or (cond b (Some x) None) o) ≡ option_or (cond b (Some (f x)) None) (option_map f o)
map_or f true x o = refl
map_or f false x o = refl

-- a column of a table with one more row
pub column_push : {X Y : Type 0} (f : X → Y) (xs : List X) (x : X) (i n : ℕ) → length xs ≡ n → option_map f (slice_get (xs ++ x ∷ []) i) ≡ option_or (cond (eqb n i) (Some (f x)) None) (option_map f (slice_get xs i))
column_push f xs x i n e = rw (← e) (ap (option_map f) (slice_get_push xs x i) ∙ map_or f (eqb (length xs) i) x (slice_get xs i))

pub count_push : {X : Type 0} (p : X → Bool) (xs : List X) (x : X) → counted p (xs ++ x ∷ []) ≡ cond (p x) (counted p xs + 1) (counted p xs)
count_push p [] x = one_at (p x) where
  one_at : (b : Bool) → cond b (1 + 0) 0 ≡ cond b (0 + 1) 0
  one_at true = refl
  one_at false = refl
count_push p (y ∷ ys) x = more_at (p y) (p x) (count_push p ys x) where
  more_at : (d b : Bool) → counted p (ys ++ x ∷ []) ≡ cond b (counted p ys + 1) (counted p ys) → cond d (1 + counted p (ys ++ x ∷ [])) (counted p (ys ++ x ∷ [])) ≡ cond b (cond d (1 + counted p ys) (counted p ys) + 1) (cond d (1 + counted p ys) (counted p ys))
  more_at true true e = omega arith
  more_at true false e = omega arith
  more_at false true e = omega arith
  more_at false false e = omega arith

-- what is found and passes another test is some that passes it
any_at : {X : Type 0} (q p : X → Bool) (y : X) (ys : List X) (x : X) → p x ≡ true → (find q ys ≡ Some x → list_any p ys ≡ true) → (b : Bool) → cond b (Some y) (find q ys) ≡ Some x → (p y || list_any p ys) ≡ true
any_at q p y ys x k rest true g = let same : y ≡ x = cc in or_left (p y) (list_any p ys) (ap p same ∙ k)
any_at q p y ys x k rest false g = or_right (p y) (list_any p ys) (rest g)

pub found_any : {X : Type 0} (q p : X → Bool) (xs : List X) (x : X) → find q xs ≡ Some x → p x ≡ true → list_any p xs ≡ true
found_any q p [] x e k = absurd cc
found_any q p (y ∷ ys) x e k = any_at q p y ys x k (λ g. found_any q p ys x g k) (q y) e

pub eqb_swapped : (a b : ℕ) → eqb a b ≡ eqb b a
eqb_swapped a b = grind (arith, nat_tests)

-- the item at a place changes
abbrev pub changed_if : {X : Type 0} → Bool → (X → X) → X → X
changed_if true change x = change x
changed_if false change x = x

same_item : {X : Type 0} (change : X → X) (w : Option X) → w ≡ option_map (changed_if false change) w
same_item change None = refl
same_item change (Some x) = refl

pub at_changed : {X : Type 0} (change : X → X) (xs : List X) (s i : ℕ) → slice_get (changed change xs s) i ≡ option_map (changed_if (eqb s i) change) (slice_get xs i)
at_changed change [] s i = refl
at_changed change (x ∷ xs) zero zero = ap (λ b. Some (changed_if b change x)) (sym (eq-eqb 0 0 refl))
at_changed change (x ∷ xs) zero (suc i) = same_item change (slice_get xs i) ∙ ap (λ b. option_map (changed_if b change) (slice_get xs i)) (sym (ne_eqb 0 (suc i) (λ (q : 0 ≡ suc i). omega arith)))
at_changed change (x ∷ xs) (suc s) zero = same_item change (Some x) ∙ ap (λ b. option_map (changed_if b change) (Some x)) (sym (ne_eqb (suc s) 0 (λ (q : suc s ≡ 0). omega arith)))
at_changed change (x ∷ xs) (suc s) (suc i) = at_changed change xs s i ∙ ap (λ b. option_map (changed_if b change) (slice_get xs i)) (sym (eqb_suc s i))

pub count_changed : {X : Type 0} (change : X → X) (xs : List X) (s : ℕ) → length (changed change xs s) ≡ length xs
count_changed change [] s = refl
count_changed change (x ∷ xs) zero = refl
count_changed change (x ∷ xs) (suc s) = ap suc (count_changed change xs s)

-- an item written at its place is the item that changed
pub set_changed : {X : Type 0} (change : X → X) (xs : List X) (i : ℕ) (x : X) → i < length xs → x ≡ get_or xs i x → set xs i (change x) ≡ changed change xs i
set_changed change [] i x lt e = absurd (omega arith)
set_changed change (y ∷ ys) zero x lt e = ap (λ z. change z ∷ ys) e
set_changed change (y ∷ ys) (suc i) x lt e = ap (λ l. y ∷ l) (set_changed change ys i x (omega arith) e)

-- an item that is found at its place
pub stands_there : {X : Type 0} (xs : List X) (i : ℕ) (x : X) → i < length xs → x ≡ get_or xs i x → slice_get xs i ≡ Some x
stands_there [] i x lt e = absurd (omega arith)
stands_there (y ∷ ys) zero x lt e = ap Some (sym e)
stands_there (y ∷ ys) (suc i) x lt e = stands_there ys i x (omega arith) e
