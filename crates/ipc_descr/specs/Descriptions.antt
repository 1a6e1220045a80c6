-- What contracts see of the descriptions: a plain list of rows, what is looked up in it, and what an open and a change make of it.
use Rattle.std.specs.Prelude.{Bool, ℕ, ◌+◌, ◌≤◌, ◌==◌, ◌&&◌, not, List, [], ◌∷◌, ◌++◌, find, filter, Option, Some, None, if◌then◌else◌}
use Rattle.std.specs.List.{list_any}
use Rattle.std.specs.Option.{option_and_then}
use Rattle.ipc_terms.specs.declared.ids.Sid.{Sid}
use Rattle.ipc_terms.specs.declared.call.Access.{Access}
use Rattle.ipc_descr.specs.declared.row.Row.{Row}

-- the rows in the order of their numbers, and how many were ever opened
pub record Descriptions : Type 0 where
  pub rows : List Row
  pub opened : ℕ

-- the number of the row's description
abbrev pub number : Row → ℕ
number row = row.desc.0

-- whether the row is description d
abbrev pub is_desc : ℕ → Row → Bool
is_desc d row = d == row.desc.0

-- whether the row is session s's
abbrev pub is_of : ℕ → Row → Bool
is_of s row = s == row.session.0

-- whether the row gives object o
abbrev pub is_to : ℕ → Row → Bool
is_to o row = row.object == o

-- the row, if it is session s's
abbrev pub if_of : ℕ → Row → Option Row
if_of s row = if is_of s row then Some row else None

-- the row by which session s holds description d
abbrev pub row_of : List Row → ℕ → ℕ → Option Row
row_of rows s d = option_and_then (if_of s) (find (is_desc d) rows)

-- all but what session s holds by description d
abbrev pub without_desc : List Row → ℕ → ℕ → List Row
without_desc rows s d = filter (λ row. not (is_of s row && is_desc d row)) rows

-- all but what session s holds
abbrev pub without_session : List Row → ℕ → List Row
without_session rows s = filter (λ row. not (is_of s row)) rows

-- whether a row gives object o
abbrev pub is_open : List Row → ℕ → Bool
is_open rows o = list_any (is_to o) rows

-- one more description of object o, which has the next number
abbrev pub with_open : Descriptions → Sid → ℕ → Access → Bool → Descriptions
with_open t sid o access nonblock = record {
  rows = t.rows ++ record { desc = record { 0 = t.opened }; session = sid; object = o; access = access; nonblock = nonblock } ∷ [];
  opened = t.opened + 1;
}

-- its calls are refused where they would wait, or not
abbrev pub with_nonblock : Bool → Row → Row
with_nonblock nonblock row = record row { nonblock = nonblock }

-- it is another session's
abbrev pub with_session : Sid → Row → Row
with_session taker row = record row { session = taker }

-- the numbers of the rows rise from `low` on, and stay below `high`
abbrev pub Rise : ℕ → ℕ → List Row → Type 0
Rise low high [] = low ≤ high
Rise low high (row ∷ rows) = (low ≤ number row) × Rise (number row + 1) high rows
