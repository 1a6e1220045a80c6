-- How many items are left of a list without the first that passes a test.
use Rattle.std.proofs.Common.{◌≡◌, ◌+◌, ◌||◌, Bool, true, false, cond, List, [], ◌∷◌, length, arith}
use Rattle.std.specs.List.{list_any}
use Rattle.ipc_terms.specs.Lists.{without_first}

pub one_less : {A : Type 0} (test : A → Bool) (xs : List A) → list_any test xs ≡ true → length (without_first test xs) + 1 ≡ length xs
one_less test [] e = absurd cc
one_less {A = A} test (x ∷ xs) e = at (test x) e (λ k. one_less test xs k) where
  at : (b : Bool) → (b || list_any test xs) ≡ true → (list_any test xs ≡ true → length (without_first test xs) + 1 ≡ length xs) → length (cond b xs (x ∷ without_first test xs)) + 1 ≡ length (x ∷ xs)
  at true k rest = omega arith
  at false k rest = let less = rest k in omega arith
