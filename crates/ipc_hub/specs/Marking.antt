-- Which connections were answered since they were last named.
use Rattle.std.specs.Prelude.{◌≡◌, ◌==◌, ◌≤◌, Bool, true, false, ℕ, ◌+◌, ◌-◌, List, [], ◌∷◌, ◌++◌, length, map, take, nat_lt, slice_get, Option, Some, None, unwrap_or, if◌then◌else◌}
use Rattle.ipc_terms.specs.Lists.{changed, Each}
use Rattle.ipc_terms.specs.declared.ids.Sid.{Sid}
use Rattle.ipc_containers.specs.Slots.{at, emptied, how_many_filled}

-- whether the flag of this number is set; no, where there is none
abbrev pub is_set : List Bool → ℕ → Bool
is_set flags i = unwrap_or (slice_get flags i) false

-- what a slot says of its flag: off, where none is kept
abbrev pub flag_in : Option Bool → Bool
flag_in slot = unwrap_or slot false

-- how many flags are set
abbrev pub how_many_set : List Bool → ℕ
how_many_set [] = 0
how_many_set (flag ∷ flags) = if flag then how_many_set flags + 1 else how_many_set flags

-- how often a number stands in a list
abbrev pub times : ℕ → List ℕ → ℕ
times i [] = 0
times i (j ∷ js) = if j == i then times i js + 1 else times i js

-- the list has the numbers of the flags that are set, each once
pub record AreListed (flags : List Bool) (list : List ℕ) : Type 0 where
  pub once : (i : ℕ) → times i list ≡ (if is_set flags i then 1 else 0)
  pub count : length list ≡ how_many_set flags

-- whose each session is. before: how many sessions began before the first that has a connection. list: the connections of the
-- others, by the sessions' numbers; none of those that ended
pub record Owners : Type 0 where
  pub before : ℕ
  pub list : List (Option ℕ)

-- the connection of session s, if it has one
abbrev pub owner_of : Owners → ℕ → Option ℕ
owner_of owners s = if nat_lt s owners.before then None else at owners.list (s - owners.before)

-- how many sessions there ever were
abbrev pub sessions_in : Owners → ℕ
sessions_in owners = owners.before + length owners.list

-- the next session is connection i's
abbrev pub with_owner : ℕ → Owners → Owners
with_owner i owners = record owners { list = owners.list ++ Some i ∷ [] }

-- the newest session never was
abbrev pub without_newest : Owners → Owners
without_newest owners = record owners { list = take (length owners.list - 1) owners.list }

-- session s has no connection any more
abbrev pub without_owner : ℕ → Owners → Owners
without_owner s owners = if nat_lt s owners.before then owners else record owners { list = changed emptied owners.list (s - owners.before) }

-- what is seen of marks. owners: whose each session is. marked: whether each connection was answered since it was last named.
-- flagged: whether its flag is kept
pub record MarksView : Type 0 where
  pub owners : Owners
  pub marked : List Bool
  pub flagged : List Bool

-- the flags that are set are listed, those that are kept are so many, and the list has room for all
pub record AreMarks (flags : List (Option Bool)) (count : ℕ) (list : List ℕ) (capacity : ℕ) : Type 0 where
  pub listed : AreListed (map flag_in flags) list
  pub counted : count ≡ how_many_filled flags
  pub fits : count ≤ capacity

-- no session of this number is among them
abbrev pub NoneIs : ℕ → List Sid → Type 0
NoneIs s sids = Each (λ sid. (sid.0 == s) ≡ false) sids

-- no mark goes, and a session whose connection has a flag, and no mark, is none of these
pub record MarksOwners (old : MarksView) (sids : List Sid) (new : MarksView) : Type 0 where
  pub same : new ≡ record old { marked = new.marked }
  pub count : length new.marked ≡ length old.marked
  pub kept : (i : ℕ) → is_set old.marked i ≡ true → is_set new.marked i ≡ true
  pub none : (s i : ℕ) → owner_of old.owners s ≡ Some i → is_set old.flagged i ≡ true → is_set new.marked i ≡ false → NoneIs s sids
