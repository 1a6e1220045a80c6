-- A core with marks: whose each session is, and which connections were answered since they were last named.
use Rattle.std.specs.Prelude.{◌≡◌, ◌≤◌, Bool, true, false, ℕ, ◌+◌, List, length, Some}
use Rattle.ipc_terms.specs.declared.ids.Sid.{Sid}
use Rattle.ipc_terms.specs.declared.record.Event.{Event}
use Rattle.ipc_terms.specs.declared.record.Event.TheVariants.{Do, Tick}
use Rattle.ipc_policy.specs.Decides.History.{History}
use Rattle.ipc_policy.specs.Decides.Sessions.{hellos, live}
use Rattle.ipc_core.specs.Boxes.{box_at}
use Rattle.ipc_core.specs.CoreView.{CoreView}
use Rattle.ipc_hub.specs.Hub.{HasEnded}
use Rattle.ipc_hub.specs.Marking.{is_set, owner_of, sessions_in, Owners, MarksView}

-- owners: whose each session is. marked: whether each connection was answered since it was last named. flagged: whether its flag
-- is kept
pub record MarkedView : Type 0 where
  pub core : CoreView
  pub owners : Owners
  pub marked : List Bool
  pub flagged : List Bool

-- each session is counted, and those that have a connection are live
pub record AreOwners (owners : Owners) (h : History) : Type 0 where
  pub count : sessions_in owners ≡ hellos h
  pub live_is : (s i : ℕ) → owner_of owners s ≡ Some i → live h s ≡ true

-- whether an event starts no session and ends none
abbrev pub is_plain : Event → Bool
is_plain (Do sid call) = true
is_plain (Tick moment) = true
is_plain e = false

-- session s is connection i's, or it has ended
pub data IsOwned (m : MarkedView) (s i : ℕ) : Type 0 where
  Owned : owner_of m.owners s ≡ Some i → IsOwned m s i
  NoMore : HasEnded m.core (record { 0 = s }) → IsOwned m s i

-- a session that has ended stays so, and has the untaken answers that it had
pub record EndedStay (a b : CoreView) : Type 0 where
  pub ended : (sid : Sid) → HasEnded a sid → HasEnded b sid
  pub silent : (sid : Sid) → HasEnded a sid → box_at b.untaken sid.0 ≡ box_at a.untaken sid.0

-- no session changes its connection before it ends, no flag and no mark goes, and a session whose connection has a flag, and no
-- mark, or which has ended, has the untaken answers that it had
pub record Follows (old new : MarkedView) : Type 0 where
  pub count : length new.marked ≡ length old.marked
  pub flagged : new.flagged ≡ old.flagged
  pub owners : (s i : ℕ) → owner_of old.owners s ≡ Some i → IsOwned new s i
  pub kept : (i : ℕ) → is_set old.marked i ≡ true → is_set new.marked i ≡ true
  pub silent : (s i : ℕ) → owner_of old.owners s ≡ Some i → is_set old.flagged i ≡ true → is_set new.marked i ≡ false → box_at new.core.untaken s ≡ box_at old.core.untaken s
  pub ended : EndedStay old.core new.core

-- the same of one event, from core a and marks m to core b and marks n
pub record MarksAnswered (a : CoreView) (m : MarksView) (b : CoreView) (n : MarksView) : Type 0 where
  pub same : n ≡ record m { marked = n.marked }
  pub count : length n.marked ≡ length m.marked
  pub kept : (i : ℕ) → is_set m.marked i ≡ true → is_set n.marked i ≡ true
  pub silent : (s i : ℕ) → owner_of m.owners s ≡ Some i → is_set m.flagged i ≡ true → is_set n.marked i ≡ false → box_at b.untaken s ≡ box_at a.untaken s
  pub ended : EndedStay a b

-- no session has more than two untaken answers more
abbrev pub GainsAtMostTwo : CoreView → CoreView → Type 0
GainsAtMostTwo a b = (s : ℕ) → length (box_at b.untaken s) ≤ length (box_at a.untaken s) + 2
