-- How long a round waits.
use Rattle.std.specs.Prelude.{◌≤◌, ℕ, Option, Some, None}

-- a wait that ends, after so many milliseconds at most
abbrev pub IsAtMost : ℕ → Option ℕ → Type 0
IsAtMost most None = ⊥
IsAtMost most (Some milliseconds) = milliseconds ≤ most
