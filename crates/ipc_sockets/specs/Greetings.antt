-- What a link gives before its socket does.
use Rattle.std.specs.Prelude.{◌≡◌, ◌≤◌, ℕ, min, List, [], length, drop, take, slice_get, Option, Some, Result, IfOk, OnErr, unwrap_or}

-- as many bytes as are left and as a buffer has room for
abbrev pub given : List ℕ → List ℕ → ℕ
given left buffer = min (length left) (length buffer)

-- what is left of a greeting, and nothing where there is none
abbrev pub left_of : Option (List ℕ) → List ℕ
left_of greeting = unwrap_or greeting []

-- What is left of the greeting comes first, in order, as much as there is room for, and doesn't come again. There is no error while
-- some is left.
abbrev pub Begins : {E : Type 0} → List ℕ → List ℕ → List ℕ → List ℕ → Result ℕ E → Type 0
Begins old new buffer filled result =
    (new ≡ drop (given old buffer) old)
    × (take (given old buffer) filled ≡ take (given old buffer) old)
    × IfOk result (λ count. given old buffer ≤ count)
    × OnErr result (given old buffer ≡ 0)

-- it is what connections at one of these listeners begin with
abbrev pub IsOneOf : List (Option (List ℕ)) → Option (List ℕ) → Type 0
IsOneOf listeners greeting = (place : ℕ) × (slice_get listeners place ≡ Some greeting)
