-- Requests are stepped in portions, and what they are answered is taken behind each.
use Rattle.std.specs.Prelude.{◌≡◌, ◌⊎◌, ◌==◌, ◌<◌, ◌≤◌, false, max, length, ℕ, List, [], ◌++◌, ⊤, Option, Some, None}
use Rattle.ipc_terms.specs.declared.call.Answer.{Answer}
use Rattle.ipc_hub.specs.Hub.{Hub, is_marked, spell_answers, untaken_at}
use Rattle.ipc_loop.specs.Ports.{Port}

-- all that connection k was answered is taken, as long as its link takes something
abbrev pub HasAll : ℕ → Hub → Port → Type 0
HasAll k hub port = (port.left ≡ None) ⊎ (untaken_at hub k ≡ [])

-- connection k's answers are taken, and those of no other
pub record Collects (k : ℕ) (hub hub' : Hub) (port' : Port) : Type 0 where
  pub all : HasAll k hub' port'
  pub others : (i : ℕ) → (k == i) ≡ false → untaken_at hub' i ≡ untaken_at hub i
  pub marks : hub'.marked ≡ hub.marked

-- who else isn't marked wasn't either, and has the untaken answers that it had
abbrev pub OthersAreMarked : ℕ → Hub → Hub → Type 0
OthersAreMarked k hub hub' = (i : ℕ) → (k == i) ≡ false → is_marked hub' i ≡ false → (is_marked hub i ≡ false) × (untaken_at hub' i ≡ untaken_at hub i)

-- connection k's requests are stepped, and its answers taken
pub record StepsAndCollects (k : ℕ) (hub hub' : Hub) (port' : Port) : Type 0 where
  pub all : HasAll k hub' port'
  pub others : OthersAreMarked k hub hub'

-- connection k's requests are stepped until so many answers are untaken, which stand in the hub
pub record StepsPortion (k most : ℕ) (hub : Hub) (port : Port) (hub' : Hub) (port' : Port) : Type 0 where
  pub few : length (untaken_at hub' k) ≤ max (length (untaken_at hub k)) most
  pub others : OthersAreMarked k hub hub'
  pub left : port'.left ≡ port.left

-- these bytes are what was left, and then the spellings of these answers
pub record AreBehind (answers : List Answer) (left : Option (List ℕ)) (bytes : List ℕ) : Type 0 where
  pub before : List ℕ
  pub last : List ℕ
  pub was : left ≡ Some before
  pub spelled : spell_answers answers ≡ Some last
  pub whole : bytes ≡ before ++ last

-- the spellings of these answers are added to what is left; nothing is left once a link takes nothing any more
abbrev pub AddsSpelled : List Answer → Option (List ℕ) → Option (List ℕ) → Type 0
AddsSpelled answers left None = ⊤
AddsSpelled answers left (Some bytes) = AreBehind answers left bytes

-- those of so many answers at most are
abbrev pub AddsFew : ℕ → Option (List ℕ) → Option (List ℕ) → Type 0
AddsFew most left None = ⊤
AddsFew most left (Some bytes) = (answers : List Answer) × (length answers ≤ most) × AreBehind answers left bytes

-- less than 1 MiB is left
abbrev pub IsUnder : Option (List ℕ) → Type 0
IsUnder None = ⊤
IsUnder (Some bytes) = length bytes < 1048576

-- what is left is what was left before a turn's steps, or less than 1 MiB and then nine answers at most
abbrev pub KeepsBound : Option (List ℕ) → Option (List ℕ) → Type 0
KeepsBound left None = ⊤
KeepsBound left (Some bytes) = (left ≡ Some bytes) ⊎ ((before : List ℕ) × (length before < 1048576) × AddsFew 9 (Some before) (Some bytes))
