-- What a host tells of links that are ready.
use Rattle.std.specs.Prelude.{◌≡◌, ◌⊎◌, ◌==◌, ◌||◌, ⊤, Bool, true, false, ℕ, List, [], ◌∷◌, ◌++◌, slice_get, Option, Some, None, if◌then◌else◌}
use Rattle.ipc_loop.specs.declared.links.Ready.{Ready}
use Rattle.ipc_loop.specs.declared.links.Ready.TheVariants as ready
use Rattle.ipc_loop.specs.Moves.{Moved, GoOn}
use Rattle.ipc_loop.specs.Ports.{Port, port_at}
use Rattle.ipc_loop.specs.Listening.{is_nobody, nobody_comes}
use Rattle.ipc_loop.specs.Asking.{has_left, may_be_read, IsServed, IsOffered}

-- whether somebody connects
abbrev pub is_listener : Ready → Bool
is_listener ready.Listener = true
is_listener (ready.Link number is_readable is_writable has_ended) = false

-- whether link i can be read, or its end can; and whether it can be written
abbrev pub can_be_read : ℕ → Ready → Bool
can_be_read i ready.Listener = false
can_be_read i (ready.Link number is_readable is_writable has_ended) = if number == i then is_readable || has_ended else false

abbrev pub can_be_written : ℕ → Ready → Bool
can_be_written i ready.Listener = false
can_be_written i (ready.Link number is_readable is_writable has_ended) = if number == i then is_writable else false

-- whether one of these is told
abbrev pub tells : (Ready → Bool) → List Ready → Bool
tells test [] = false
tells test (first ∷ rest) = test first || tells test rest

-- what was told, where it is known, goes on with these
abbrev pub TellsAlso : Option (List Ready) → Option (List Ready) → List Ready → Type 0
TellsAlso None new more = ⊤
TellsAlso (Some told) None more = ⊥
TellsAlso (Some told) (Some later) more = later ≡ told ++ more

-- the host told this, or nothing
abbrev pub Tells : Option (List Ready) → Option (List Ready) → Option Ready → Type 0
Tells old new None = new ≡ old
Tells old new (Some told) = TellsAlso old new (told ∷ [])

-- what link i's port is once this is told, and all of these
abbrev pub noted : ℕ → Ready → Port → Port
noted i told port = record port { may_read = port.may_read || can_be_read i told; may_write = port.may_write || can_be_written i told }

abbrev pub noted_all : ℕ → List Ready → Port → Port
noted_all i [] port = port
noted_all i (first ∷ rest) port = noted_all i rest (noted i first port)

-- each port is as what is told makes it; or its link is closed, for which nothing was left
abbrev pub NotesAll : List Ready → List (Option Port) → List (Option Port) → Type 0
NotesAll told ports ports' = (i : ℕ) (port : Port) → slice_get ports i ≡ Some (Some port) → (slice_get ports' i ≡ Some (Some (noted_all i told port))) ⊎ ((slice_get ports' i ≡ Some None) × (has_left port.left ≡ false))

-- the host told this, all of it is noted, and whether somebody connects
pub record Hears (told told' : Option (List Ready)) (ports ports' : List (Option Port)) (is_told : Bool) : Type 0 where
  pub heard : List Ready
  pub more : TellsAlso told told' heard
  pub noted : NotesAll heard ports ports'
  pub listener : tells is_listener heard ≡ is_told

-- over a round, of what the host told: where somebody connects, the listener is left alone only once it said that nobody waits; a link that can
-- be read, has nothing unwritten and no requests to step was asked for more, or was offered as much as is written in a turn, or isn't read
-- any more; and one that can be written was offered what was left from before
pub record HearsAll (told told' : Option (List Ready)) (moves moves' : Option (List Moved)) (ports ports' : List (Option Port)) (may_accept' : Bool) : Type 0 where
  pub heard : List Ready
  pub more : TellsAlso told told' heard
  pub moved : List Moved
  pub went : GoOn moves moves' moved
  pub listener : tells is_listener heard ≡ true → may_accept' ≡ false → (all : List Moved) × (GoOn moves moves' all × (nobody_comes is_nobody all ≡ true))
  pub readable : (i : ℕ) (port : Port) → tells (can_be_read i) heard ≡ true → slice_get ports i ≡ Some (Some port) → may_be_read (record port { may_read = true }) ≡ true → IsServed i moved (port_at ports' i)
  pub writable : (i : ℕ) (port : Port) → tells (can_be_written i) heard ≡ true → slice_get ports i ≡ Some (Some port) → has_left port.left ≡ true → IsOffered i moved port
