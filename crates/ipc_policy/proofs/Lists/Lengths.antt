-- How many items a queue's lists have after an act.
use Rattle.std.proofs.Common.{◌≡◌, ℕ, ◌+◌, ◌≤◌, Bool, true, false, not, eqb, List, [], ◌∷◌, length, cond, Option, Some, None, refl, sym, ap, arith}
use Rattle.std.specs.Option.{option_to_list}
use Rattle.std.proofs.lemmas.Bool.{ne_eqb}
use Rattle.std.specs.Prelude.{filter}
use Rattle.ipc_terms.specs.Lists.{first}
use Rattle.ipc_policy.specs.Decides.Queues.{Send, has_none, tail, next, others}
use Rattle.ipc_policy.proofs.Lists.Counting.{count_at, next_in}
use Rattle.ipc_policy.proofs.Lists.EntryOrder.{next_some}

-- a list has none exactly where its length is 0
pub none_is_length : {A : Type 0} (xs : List A) → has_none xs ≡ eqb (length xs) 0
none_is_length [] = refl
none_is_length (x ∷ xs) = sym (ne_eqb (length (x ∷ xs)) 0 (λ (e : length (x ∷ xs) ≡ 0). absurd (let some : 1 ≤ length (x ∷ xs) = omega arith in omega arith)))

pub none_is_empty : {A : Type 0} (xs : List A) → has_none xs ≡ true → xs ≡ []
none_is_empty [] e = refl
none_is_empty (x ∷ xs) e = absurd cc

pub some_length : {A : Type 0} (xs : List A) → has_none xs ≡ false → 1 ≤ length xs
some_length [] e = absurd cc
some_length (x ∷ xs) e = omega arith

pub length_some : {A : Type 0} (xs : List A) → 1 ≤ length xs → has_none xs ≡ false
length_some [] le = absurd (omega arith)
length_some (x ∷ xs) le = refl

pub behind_some : {A : Type 0} (xs : List A) → has_none (tail xs) ≡ false → has_none xs ≡ false
behind_some [] e = e
behind_some (x ∷ xs) e = refl

pub filter_some : {A : Type 0} (p : A → Bool) (xs : List A) → has_none (filter p xs) ≡ false → has_none xs ≡ false
filter_some p [] e = e
filter_some p (x ∷ xs) e = refl

-- the first, as a list, is one item or none
pub first_none : {A : Type 0} (xs : List A) → has_none xs ≡ true → option_to_list (first xs) ≡ []
first_none [] e = refl
first_none (x ∷ xs) e = absurd cc

pub first_one : {A : Type 0} (xs : List A) → has_none xs ≡ false → length (option_to_list (first xs)) ≡ 1
first_one [] e = absurd cc
first_one (x ∷ xs) e = refl

-- without the sends of a place
filtered_length : (p : ℕ) (xs : List Send) → length (filter (λ m. not (eqb m.place p)) xs) + count_at p xs ≡ length xs
filtered_length p [] = refl
filtered_length p (x ∷ xs) = at (eqb x.place p) (filtered_length p xs) where
  at : (b : Bool) → length (filter (λ m. not (eqb m.place p)) xs) + count_at p xs ≡ length xs → length (cond (not b) (x ∷ filter (λ m. not (eqb m.place p)) xs) (filter (λ m. not (eqb m.place p)) xs)) + cond b (count_at p xs + 1) (count_at p xs) ≡ length (x ∷ xs)
  at true e = omega (arith, e)
  at false e = omega (arith, e)

-- a message that is taken is one less
pub others_length : (xs : List Send) → ((i : ℕ) → count_at i xs ≤ 1) → has_none xs ≡ false → length (others (next xs) xs) + 1 ≡ length xs
others_length xs one some = at (next xs) refl where
  at : (o : Option Send) → next xs ≡ o → length (others o xs) + 1 ≡ length xs
  at None q = absurd (let none : has_none xs ≡ true = ap has_none (next_some xs q) in let wrong : true ≡ false = rw none at some in cc)
  at (Some m) q =
      let there : 1 ≤ count_at m.place xs = next_in xs m q in
      let most : count_at m.place xs ≤ 1 = one m.place in
      let sum = filtered_length m.place xs in
      omega arith

pub others_le : (o : Option Send) (xs : List Send) → length (others o xs) ≤ length xs
others_le None xs = omega arith
others_le (Some m) xs = let sum = filtered_length m.place xs in omega arith
