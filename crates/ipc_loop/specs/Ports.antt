-- What the loop keeps of its links.
use Rattle.std.specs.Prelude.{◌≡◌, ◌==◌, ◌+◌, ◌≤◌, length, Bool, true, false, not, ◌||◌, ◌&&◌, ℕ, List, [], ◌∷◌, slice_get, Option, Some, None, is_none, is_some, unwrap_or, if◌then◌else◌}
use Rattle.ipc_loop.specs.declared.ending.Ending.{Ending}

-- left: what was taken from the hub for the link and is not written yet; none once the link takes nothing any more.
-- ending: why the link isn't read any more. is_over: whether the hub knows. may_read, may_write: what the link was last
-- known to do. is_full: whether the hub keeps requests that can be stepped once answers are taken.
-- requests: how many of its requests were stepped
pub record Port : Type 0 where
  pub left : Option (List ℕ)
  pub ending : Option Ending
  pub is_over : Bool
  pub may_read : Bool
  pub may_write : Bool
  pub is_full : Bool
  pub requests : ℕ

abbrev pub new_port : Port
new_port = record { left = Some []; ending = None; is_over = false; may_read = false; may_write = true; is_full = false; requests = 0 }

-- the port of link i, if it is open
abbrev pub open_at : List (Option Port) → ℕ → Option Port
open_at ports i = unwrap_or (slice_get ports i) None

-- the same; a link that is still to come has a new port
abbrev pub port_at : List (Option Port) → ℕ → Option Port
port_at ports i = unwrap_or (slice_get ports i) (Some new_port)

-- the ports with this one for link k
abbrev pub with_port : (ℕ → Option Port) → ℕ → Option Port → ℕ → Option Port
with_port ports k port i = if k == i then port else ports i

-- what is left for a link; none once it takes nothing any more
abbrev pub left_of : Option Port → Option (List ℕ)
left_of None = None
left_of (Some port) = port.left

-- nothing is left of what a link gave; none once it is read no more
abbrev pub unfed_of : Option Port → Option (List ℕ)
unfed_of None = None
unfed_of (Some port) = if is_none port.ending then Some [] else None

-- whether its connection is to be hung up
abbrev pub is_ending : Port → Bool
is_ending port = is_some port.ending && not port.is_over

-- whether a turn would do something for a port that has so much left: it is to be closed; all is written, and it may be
-- read, has requests to step, or has come to its end; or it may be written, or is to be hung up
abbrev pub has_work_left : Port → Option (List ℕ) → Bool
has_work_left port None = true
has_work_left port (Some []) = port.may_read || port.is_full || is_some port.ending
has_work_left port (Some (byte ∷ bytes)) = port.may_write || is_ending port

abbrev pub has_work : Port → Bool
has_work port = has_work_left port port.left

-- whether all that was taken for the link is written
abbrev pub is_all : Option (List ℕ) → Bool
is_all None = false
is_all (Some []) = true
is_all (Some (byte ∷ bytes)) = false

-- whether the number stands in the list
abbrev pub stands_in : ℕ → List ℕ → Bool
stands_in i [] = false
stands_in i (number ∷ numbers) = if number == i then true else stands_in i numbers

-- each port that a turn would do something for stands in the list
abbrev pub NobodyIsForgotten : List (Option Port) → List ℕ → Type 0
NobodyIsForgotten ports turns = (i : ℕ) (port : Port) → slice_get ports i ≡ Some (Some port) → has_work port ≡ true → stands_in i turns ≡ true

-- how many of the links are open
abbrev pub how_many_open : List (Option Port) → ℕ
how_many_open [] = 0
how_many_open (None ∷ ports) = how_many_open ports
how_many_open (Some port ∷ ports) = how_many_open ports + 1

-- links are opened behind all before, and a link that is closed stays closed: no number is used again
pub record Continues (ports ports' : List (Option Port)) : Type 0 where
  pub count : length ports ≤ length ports'
  pub closed : (i : ℕ) → slice_get ports i ≡ Some None → slice_get ports' i ≡ Some None

-- the same, and no link is opened
pub record OnlyCloses (ports ports' : List (Option Port)) : Type 0 where
  pub count : length ports' ≡ length ports
  pub closed : (i : ℕ) → slice_get ports i ≡ Some None → slice_get ports' i ≡ Some None

-- who stands in a list still does
abbrev pub KeepsListed : List ℕ → List ℕ → Type 0
KeepsListed numbers numbers' = (i : ℕ) → stands_in i numbers ≡ true → stands_in i numbers' ≡ true
