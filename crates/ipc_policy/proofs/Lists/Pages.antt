-- A page has at most 1,000 items, and they are of the list.
use Rattle.std.proofs.Common.{ℕ, zero, suc, ◌≤◌, List, [], ◌∷◌, length, take, drop, min, arith}
use Rattle.std.proofs.lemmas.List.{length-take}
use Rattle.ipc_terms.specs.Lists.{Each}
use Rattle.ipc_terms.specs.Pages.{page}

pub take_le : {A : Type 0} (n : ℕ) (xs : List A) → length (take n xs) ≤ n
take_le n xs = let k = length-take n xs in omega arith

each_take : {A : Type 0} (P : A → Type 0) (n : ℕ) (xs : List A) → Each P xs → Each P (take n xs)
each_take P zero xs h = tt
each_take P (suc n) [] h = tt
each_take P (suc n) (x ∷ xs) h = (h.0, each_take P n xs h.1)

each_drop : {A : Type 0} (P : A → Type 0) (n : ℕ) (xs : List A) → Each P xs → Each P (drop n xs)
each_drop P zero xs h = h
each_drop P (suc n) [] h = tt
each_drop P (suc n) (x ∷ xs) h = each_drop P n xs h.1

pub page_le : {A : Type 0} (start count : ℕ) (xs : List A) → length (page start count xs) ≤ 1000
page_le start count xs = let k = take_le (min count 1000) (drop start xs) in omega arith

pub each_paged : {A : Type 0} (P : A → Type 0) (start count : ℕ) (xs : List A) → Each P xs → Each P (page start count xs)
each_paged P start count xs h = each_take P (min count 1000) (drop start xs) (each_drop P start xs h)
