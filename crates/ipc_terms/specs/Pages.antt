-- Pages of a list.
use Rattle.std.specs.Prelude.{ℕ, List, min, take, drop}

-- the items from the position start on, counted from 0: at most count of them, and at most 1,000
abbrev pub page : {A : Type 0} → ℕ → ℕ → List A → List A
page start count items = take (min count 1000) (drop start items)
