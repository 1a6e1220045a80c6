-- Values in slots.
use Rattle.std.specs.Prelude.{◌≡◌, ℕ, zero, suc, ◌+◌, ◌<◌, ◌≤◌, ◌&&◌, nat_lt, Bool, List, [], ◌∷◌, length, Option, Some, None, IsSome, slice_get, option_and_then}

-- the value in a slot, where there is one
abbrev pub at : {V : Type 0} → List (Option V) → ℕ → Option V
at slots n = option_and_then (λ x. x) (slice_get slots n)

-- no slot from `from` on and below `to` has a value
abbrev pub NoneBetween : {V : Type 0} → List (Option V) → ℕ → ℕ → Type 0
NoneBetween slots from to = (n : ℕ) → from ≤ n → n < to → at slots n ≡ None

-- the first slot from `from` on that has a value; none where no slot from there on has one
abbrev pub IsNextFrom : {V : Type 0} → List (Option V) → ℕ → Option ℕ → Type 0
IsNextFrom slots from None = (n : ℕ) → from ≤ n → at slots n ≡ None
IsNextFrom slots from (Some next) = (from ≤ next) × IsSome (at slots next) × NoneBetween slots from next

-- a slot whose value was taken
abbrev pub emptied : {V : Type 0} → Option V → Option V
emptied x = None

-- how many slots have a value
abbrev pub how_many_filled : {V : Type 0} → List (Option V) → ℕ
how_many_filled [] = zero
how_many_filled (None ∷ slots) = how_many_filled slots
how_many_filled (Some x ∷ slots) = suc (how_many_filled slots)

-- there are over 64 slots, and more than half of them are empty
abbrev pub is_sparse : {V : Type 0} → List (Option V) → Bool
is_sparse slots = nat_lt 64 (length slots) && nat_lt (how_many_filled slots + how_many_filled slots) (length slots)

-- 64, and two for each value
abbrev pub most_slots : {V : Type 0} → List (Option V) → ℕ
most_slots slots = 64 + (how_many_filled slots + how_many_filled slots)
