-- The ports of a loop, and who gets a turn.
use Rattle.std.specs.Prelude.{◌≡◌, ◌==◌, ◌⊎◌, ◌+◌, ◌≤◌, true, false, Bool, ◌||◌, ℕ, List, [], ◌∷◌, ◌++◌, length, map, slice_get, slice_set, Option, Some, None, unwrap_or, if◌then◌else◌}
use Rattle.ipc_hub.specs.Marking.{is_set}
use Rattle.ipc_hub.specs.Hub.{Hub}
use Rattle.ipc_loop.specs.Ports.{Port, open_at, port_at, has_work, stands_in, how_many_open}
use Rattle.ipc_loop.specs.declared.ending.Ending.TheVariants.{NoMemory}
use Rattle.ipc_loop.specs.Moves.{Moved, LinkClosed, GoOn}
use Rattle.ipc_loop.specs.Bounds.{IsWithin}
use Rattle.ipc_loop.specs.declared.accepting.Bounds.{Bounds}
use Rattle.ipc_loop.specs.declared.ports.Place.{Place}
use Rattle.ipc_loop.specs.Serving.{IsUpToDateByMark, LeavesNothing, LetsGo, is_done}

-- the ports by their numbers, none where a link is closed; whether each number is queued; the numbers that get a turn in this
-- round and in the next; and for how many numbers each of the two lists has room
pub record Ports : Type 0 where
  pub all : List (Option Port)
  pub queued : List Bool
  pub turns : List ℕ
  pub next : List ℕ
  pub most_turns : ℕ
  pub most_next : ℕ

-- the port in a place; none, where there is no place
abbrev pub port_in : Option Place → Option Port
port_in None = None
port_in (Some place) = Some place.port

-- whether the place's number is queued
abbrev pub is_queued_in : Option Place → Bool
is_queued_in None = false
is_queued_in (Some place) = place.is_queued

abbrev pub seen : List (Option Place) → List (Option Port)
seen = map port_in

abbrev pub flags : List (Option Place) → List Bool
flags = map is_queued_in

-- each port that has work is queued, and who is queued stands in a list
pub record EachIsQueued (ports : List (Option Port)) (queued : List Bool) (turns next : List ℕ) : Type 0 where
  pub working : (i : ℕ) (port : Port) → slice_get ports i ≡ Some (Some port) → has_work port ≡ true → is_set queued i ≡ true
  pub listed : (i : ℕ) → is_set queued i ≡ true → (stands_in i turns || stands_in i next) ≡ true

-- how many ports aren't queued
abbrev pub how_many_idle : List (Option Port) → List Bool → ℕ
how_many_idle [] queued = 0
how_many_idle (None ∷ ports) [] = how_many_idle ports []
how_many_idle (None ∷ ports) (flag ∷ queued) = how_many_idle ports queued
how_many_idle (Some port ∷ ports) [] = how_many_idle ports [] + 1
how_many_idle (Some port ∷ ports) (flag ∷ queued) = if flag then how_many_idle ports queued else how_many_idle ports queued + 1

-- how many numbers may come to stand in one list: those that are listed, and those of ports that aren't queued
abbrev pub may_be_listed : List (Option Port) → List Bool → List ℕ → List ℕ → ℕ
may_be_listed ports queued turns next = how_many_idle ports queued + length turns + length next

-- what always holds of ports: each has its flag, each that has work is queued, they are counted, and the lists have room for
-- the numbers that may come into them
pub record AreKept (ports : List (Option Port)) (queued : List Bool) (turns next : List ℕ) (counted most_turns most_next : ℕ) : Type 0 where
  pub flags : length queued ≡ length ports
  pub each : EachIsQueued ports queued turns next
  pub count : counted ≡ how_many_open ports
  pub room_of_turns : may_be_listed ports queued turns next ≤ most_turns
  pub room_of_next : may_be_listed ports queued turns next ≤ most_next

-- the same, but the port of number k may have work and not be queued
pub record AreKeptBut (k : ℕ) (ports : List (Option Port)) (queued : List Bool) (turns next : List ℕ) (counted most_turns most_next : ℕ) : Type 0 where
  pub flags : length queued ≡ length ports
  pub working : (i : ℕ) (port : Port) → (k == i) ≡ false → slice_get ports i ≡ Some (Some port) → has_work port ≡ true → is_set queued i ≡ true
  pub listed : (i : ℕ) → is_set queued i ≡ true → (stands_in i turns || stands_in i next) ≡ true
  pub count : counted ≡ how_many_open ports
  pub room_of_turns : may_be_listed ports queued turns next ≤ most_turns
  pub room_of_next : may_be_listed ports queued turns next ≤ most_next

-- whether number k was queued, and is now, where it stands at the end of the list if it was queued since
abbrev pub IsListedSo : ℕ → Bool → List ℕ → Bool → List ℕ → Type 0
IsListedSo k was next is next' = ((is ≡ was) × (next' ≡ next)) ⊎ ((was ≡ false) × (is ≡ true) × (next' ≡ next ++ k ∷ []))

-- number k's port, which is this one now, isn't done and stays; or its link is closed and told why, and its connection is let go
abbrev pub IsSettled : Hub → Option (List Moved) → List (Option Port) → ℕ → Port → Hub → Option (List Moved) → List (Option Port) → Type 0
IsSettled hub moves old k port hub' moves' new =
    ((hub' ≡ hub) × (moves' ≡ moves) × (new ≡ slice_set old k (Some port)) × (is_done hub k port ≡ false)) ⊎
    (LetsGo hub k port hub' × GoOn moves moves' (LinkClosed k (unwrap_or port.ending NoMemory) ∷ []) × (new ≡ slice_set old k None))

-- between two rounds: nobody has a turn in this one, who is owed answers, or whose link is done, is marked, no more links are open than may be, and who
-- is closed left nothing
pub record IsResting (hub : Hub) (ports : Ports) (bounds : Bounds) : Type 0 where
  pub turns : ports.turns ≡ []
  pub marked : (i : ℕ) → IsUpToDateByMark hub (open_at ports.all) i
  pub within : IsWithin bounds ports.all
  pub closed : (i : ℕ) → LeavesNothing hub (port_at ports.all) i

-- number k's flag is not set now, and each other is as it was
pub record IsUnset (old : List Bool) (k : ℕ) (new : List Bool) : Type 0 where
  pub here : is_set new k ≡ false
  pub others : (i : ℕ) → (k == i) ≡ false → is_set new i ≡ is_set old i
