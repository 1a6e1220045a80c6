-- Which of several comes first by priority.
use Rattle.std.specs.Prelude.{ℕ, nat_lt, List, [], ◌∷◌, Option, Some, None, if◌then◌else◌}

-- the first of those with the greatest priority
abbrev pub first_of_greatest : {A : Type 0} → (A → ℕ) → List A → Option A
first_of_greatest priority [] = None
first_of_greatest {A = A} priority (x ∷ xs) = unless_greater (first_of_greatest priority xs) where
  unless_greater : Option A → Option A
  unless_greater None = Some x
  unless_greater (Some y) = if nat_lt (priority x) (priority y) then Some y else Some x
