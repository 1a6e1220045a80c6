-- What the answers say in the words of the crates above.
use Rattle.std.proofs.Common.{◌≡◌, Bool, true, false, cond, not, ℕ, ◌+◌, ◌<◌, ◌==◌, ◌||◌, List, [], ◌∷◌, Option, Some, None, refl, sym, ap, ◌∙◌, arith, find, count_by, if◌then◌else◌}
use Rattle.std.specs.Option.{option_map, option_and_then}
use Rattle.std.proofs.lemmas.Bool.Decides.{nat_tests}
use Rattle.std.proofs.lemmas.List.Sums.{sum_by-cons}
use Rattle.ipc_descr.specs.declared.row.Row.{Row}
use Rattle.ipc_descr.specs.Descriptions.{is_desc, is_of, is_to, if_of, row_of, is_open}

-- ---- whose a description is

found_by_test : (b : Bool) (found row : Row) → (if b then Some found else None) ≡ Some row → Some found ≡ Some row
found_by_test true found row e = e
found_by_test false found row e = cc

own_by_test : (b : Bool) (found row : Row) → (if b then Some found else None) ≡ Some row → b ≡ true
own_by_test true found row e = refl
own_by_test false found row e = cc

found_in : (s : ℕ) (o : Option Row) (row : Row) → option_and_then (if_of s) o ≡ Some row → o ≡ Some row
found_in s None row e = cc
found_in s (Some found) row e = found_by_test (is_of s found) found row e

-- what the session holds is the description's row
pub row_found : (rows : List Row) (s d : ℕ) (row : Row) → row_of rows s d ≡ Some row → find (is_desc d) rows ≡ Some row
row_found rows s d row e = found_in s (find (is_desc d) rows) row e

-- and that row is the session's
pub row_own : (rows : List Row) (s d : ℕ) (row : Row) → row_of rows s d ≡ Some row → is_of s row ≡ true
row_own rows s d row e = own_by_test (is_of s row) row row (ap (option_and_then (if_of s)) (sym (row_found rows s d row e)) ∙ e)

given_by_test : {X : Type 0} (f : Row → X) (a b : Bool) (row : Row) → a ≡ b → option_map f (if b then Some row else None) ≡ (if a then Some (f row) else None)
given_by_test f true b row e = rw (← e) refl
given_by_test f false b row e = rw (← e) refl

given_in : {X : Type 0} (f : Row → X) (own : X → Bool) (s : ℕ) (o : Option Row) → ((row : Row) → own (f row) ≡ is_of s row) → option_map f (option_and_then (if_of s) o) ≡ option_and_then (λ x. if own x then Some x else None) (option_map f o)
given_in f own s None same = refl
given_in f own s (Some row) same = given_by_test f (own (f row)) (is_of s row) row (same row)

-- what is told of a row may be asked for the session before or after
pub row_told : {X : Type 0} (f : Row → X) (own : X → Bool) (rows : List Row) (s d : ℕ) → ((row : Row) → own (f row) ≡ is_of s row) → option_map f (row_of rows s d) ≡ option_and_then (λ x. if own x then Some x else None) (option_map f (find (is_desc d) rows))
row_told f own rows s d same = given_in f own s (find (is_desc d) rows) same

-- ---- how often an object is held

none_by_test : (b : Bool) (later all : ℕ) (open_later : Bool) → all ≡ cond b 1 0 + later → (0 == later) ≡ not open_later → (0 == all) ≡ not (b || open_later)
none_by_test true later all open_later e f = let more : all ≡ 1 + later = e in grind (arith, nat_tests)
none_by_test false later all open_later e f = let same : later ≡ all = omega arith in ap (λ n. 0 == n) (sym same) ∙ f

-- no description gives the object exactly where it is not open
pub uses_test : (rows : List Row) (o : ℕ) → (0 == count_by (is_to o) rows) ≡ not (is_open rows o)
uses_test [] o = refl
uses_test (row ∷ rows) o = none_by_test (is_to o row) _ _ (is_open rows o) (sum_by-cons (λ r. cond (is_to o r) 1 0) row rows) (uses_test rows o)

pub uses_none : (rows : List Row) (o : ℕ) → is_open rows o ≡ false → count_by (is_to o) rows ≡ 0
uses_none rows o e = let none : (0 == count_by (is_to o) rows) ≡ true = uses_test rows o ∙ ap not e in grind (arith, nat_tests)

pub uses_some : (rows : List Row) (o : ℕ) → is_open rows o ≡ true → 0 < count_by (is_to o) rows
uses_some rows o e = let some : (0 == count_by (is_to o) rows) ≡ false = uses_test rows o ∙ ap not e in grind (arith, nat_tests)
