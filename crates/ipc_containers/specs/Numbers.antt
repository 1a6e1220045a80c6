-- Values at numbers, in a map.
use Rattle.std.specs.Prelude.{◌≡◌, ◌≢◌, Bool, false, ℕ, zero, suc, ◌+◌, ◌^◌, ◌<◌, ◌≤◌, List, [], ◌∷◌, ◌++◌, length, Option, None}
use Rattle.std.specs.Ordering.{nat_cmp}
use Rattle.std.specs.BTreeMap.{BTreeMap, get}
use Rattle.ipc_containers.specs.Slots.{most_slots}

-- what stands at each number below n
abbrev pub older_slots : {V : Type 0} → BTreeMap ℕ V → ℕ → List (Option V)
older_slots values zero = []
older_slots values (suc n) = older_slots values n ++ get nat_cmp values n ∷ []

-- nothing stands at n, nor behind it
abbrev pub AllBelow : {V : Type 0} → BTreeMap ℕ V → ℕ → Type 0
AllBelow values n = (number : ℕ) → n ≤ number → get nat_cmp values number ≡ None

-- this stands at the number, and what stood at each other
abbrev pub SetsAt : {V : Type 0} → BTreeMap ℕ V → BTreeMap ℕ V → ℕ → Option V → Type 0
SetsAt old new n x = (get nat_cmp new n ≡ x) × ((other : ℕ) → other ≢ n → get nat_cmp new other ≡ get nat_cmp old other)

-- no old value has a slot, each number fits, and unless the map was refused memory the slots are few
pub record IsNumbered {V : Type 0} (older : BTreeMap ℕ V) (base : ℕ) (recent : List (Option V)) (refused : Bool) : Type 0 where
  pub below : AllBelow older base
  pub fits : base + length recent < 2 ^ 64
  pub few : refused ≡ false → length recent ≤ most_slots (older_slots older base ++ recent)
