-- Calls that wait no longer than to their deadlines.
use Rattle.std.specs.Prelude.{◌≡◌, ℕ, ◌<◌, ◌≤◌, ◌==◌, Bool, not, nat_le, List, [], ◌∷◌, filter}
use Rattle.std.specs.List.{list_any}
use Rattle.ipc_containers.specs.declared.timed.Timed.{Timed}

-- the call's deadline is at most the moment
abbrev pub is_over : ℕ → Timed → Bool
is_over moment call = nat_le call.deadline moment

-- all but the call of this place
abbrev pub without : ℕ → List Timed → List Timed
without place calls = filter (λ t. not (t.place == place)) calls

-- each call's place is below this one
abbrev pub AllBelow : ℕ → List Timed → Type 0
AllBelow place [] = Unit {0}
AllBelow place (t ∷ calls) = (t.place < place) × AllBelow place calls

-- each call's place is this one or a later one
abbrev pub AllFrom : ℕ → List Timed → Type 0
AllFrom place [] = Unit {0}
AllFrom place (t ∷ calls) = (place ≤ t.place) × AllFrom place calls

-- this is the least deadline of the calls: at a moment some call is over exactly if it is at most the moment
abbrev pub IsLeast : ℕ → List Timed → Type 0
IsLeast least calls = (moment : ℕ) → nat_le least moment ≡ list_any (is_over moment) calls
