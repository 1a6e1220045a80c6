-- Whether somebody who connects is asked for.
use Rattle.std.specs.Prelude.{◌≡◌, ◌⊎◌, ◌||◌, ◌+◌, ◌≤◌, length, Bool, true, false, ℕ, List, [], ◌∷◌, ◌++◌, Option, Some, is_some, Result, MatchResult}
use Rattle.std.specs.IoError.{error_kind}
use Rattle.std.specs.declared.io.Error.{Error}
use Rattle.std.specs.declared.io.ErrorKind.{ErrorKind}
use Rattle.std.specs.declared.io.ErrorKind.TheVariants.{WouldBlock, Interrupted, ConnectionAborted, OutOfMemory}
use Rattle.ipc_loop.specs.declared.accepting.Accepting.{Accepting}
use Rattle.ipc_loop.specs.declared.accepting.Bounds.{Bounds}
use Rattle.ipc_loop.specs.Moves.{Moved, LinkOpened, NobodyCame, GoOn, opened_in}
use Rattle.ipc_loop.specs.Ports.{Port, new_port, how_many_open}
use Rattle.ipc_loop.specs.Bounds.{are_all}

-- what it means that nobody came: nobody waits; another may come at once, where a signal came or somebody went again; or accepting failed
pub data Refusal : Type 0 where
  Nobody : Refusal
  Again : Refusal
  Failed : Refusal

abbrev pub refusal_of : ErrorKind → Refusal
refusal_of WouldBlock = Nobody
refusal_of Interrupted = Again
refusal_of ConnectionAborted = Again
refusal_of kind = Failed

abbrev pub is_nobody : Refusal → Bool
is_nobody Nobody = true
is_nobody refusal = false

abbrev pub is_again : Refusal → Bool
is_again Again = true
is_again refusal = false

abbrev pub is_failed : Refusal → Bool
is_failed Failed = true
is_failed refusal = false

-- how often the host was asked for somebody who connects
abbrev pub how_often_asked : List Moved → ℕ
how_often_asked [] = 0
how_often_asked (LinkOpened i ∷ moves) = how_often_asked moves + 1
how_often_asked (NobodyCame kind ∷ moves) = how_often_asked moves + 1
how_often_asked (move ∷ moves) = how_often_asked moves

-- whether nobody came once, for such a reason
abbrev pub nobody_comes : (Refusal → Bool) → List Moved → Bool
nobody_comes reason [] = false
nobody_comes reason (NobodyCame kind ∷ moves) = reason (refusal_of kind) || nobody_comes reason moves
nobody_comes reason (move ∷ moves) = nobody_comes reason moves

-- from one moment to another, with these ports. Who may be waiting is known to be nobody only where the host said so. Else the host was asked until as
-- many links were open, or were accepted, as may be; or 64 times; or accepting failed. It failed where the host said so, or memory was
-- wanting, which shows nowhere else
pub record Listens (bounds : Bounds) (may_accept : Bool) (moves moves' : Option (List Moved)) (ports ports' : List (Option Port)) (may_accept' : Bool) (pausing : Option ErrorKind) : Type 0 where
  pub moved : List Moved
  pub went : GoOn moves moves' moved
  pub stops : may_accept ≡ true → may_accept' ≡ false → nobody_comes is_nobody moved ≡ true
  pub asked : may_accept' ≡ true → (bounds.most ≤ how_many_open ports + length (opened_in moved)) ⊎ ((are_all bounds.stop_after (length ports') ≡ true) ⊎ ((64 ≤ how_often_asked moved) ⊎ (is_some pausing ≡ true)))
  pub failed : (kind : ErrorKind) → pausing ≡ Some kind → (kind ≡ OutOfMemory) ⊎ (nobody_comes is_failed moved ≡ true)

-- no more links are to be accepted now
abbrev pub HasNoRoom : Bounds → List (Option Port) → Type 0
HasNoRoom bounds ports = (bounds.most ≤ how_many_open ports) ⊎ (are_all bounds.stop_after (length ports) ≡ true)

-- somebody was accepted; or nobody came; or memory was wanting, and the host wasn't asked
abbrev pub Comes : Option (List Moved) → Option (List Moved) → List (Option Port) → List (Option Port) → Result Unit Error → Type 0
Comes moves moves' ports ports' r =
    MatchResult r
    (λ _. (i : ℕ) × (GoOn moves moves' (LinkOpened i ∷ []) × (ports' ≡ ports ++ Some new_port ∷ [])))
    (λ e. (ports' ≡ ports) × (GoOn moves moves' (NobodyCame (error_kind e) ∷ []) ⊎ ((error_kind e ≡ OutOfMemory) × (moves' ≡ moves))))

-- who is accepted where nobody came
abbrev pub behind_refusal : Refusal → ErrorKind → Accepting → Accepting
behind_refusal Nobody kind accepting = record accepting { may_accept = false }
behind_refusal Again kind accepting = accepting
behind_refusal Failed kind accepting = record accepting { pausing = Some kind }
