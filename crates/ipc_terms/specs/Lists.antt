-- Lists.
use Rattle.std.specs.Prelude.{Bool, ℕ, zero, suc, List, [], ◌∷◌, Option, Some, None, if◌then◌else◌}

-- the first of a list, where there is one
abbrev pub first : {A : Type 0} → List A → Option A
first [] = None
first (x ∷ xs) = Some x

-- the item at a place changes
abbrev pub changed : {A : Type 0} → (A → A) → List A → ℕ → List A
changed change [] i = []
changed change (x ∷ xs) zero = change x ∷ xs
changed change (x ∷ xs) (suc i) = x ∷ changed change xs i

-- the first item that passes the test changes
abbrev pub changed_first : {A : Type 0} → (A → Bool) → (A → A) → List A → List A
changed_first test change [] = []
changed_first test change (x ∷ xs) = if test x then change x ∷ xs else x ∷ changed_first test change xs

-- all but the first that passes the test
abbrev pub without_first : {A : Type 0} → (A → Bool) → List A → List A
without_first test [] = []
without_first test (x ∷ xs) = if test x then xs else x ∷ without_first test xs

-- it holds of each item
abbrev pub Each : {A : Type 0} → (A → Type 0) → List A → Type 0
Each P [] = Unit {0}
Each P (x ∷ xs) = P x × Each P xs
