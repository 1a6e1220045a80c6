-- Whose sessions are whose.
use Rattle.std.specs.Prelude.{◌≡◌, true, false, not, ℕ, ◌<◌, List, Some, None, length, slice_get}
use Rattle.ipc_terms.specs.declared.ids.Sid.{Sid}
use Rattle.ipc_policy.specs.Decides.Sessions.{hellos, live}
use Rattle.ipc_core.specs.CoreView.{CoreView}
use Rattle.ipc_hub.specs.Hub.{Connection}
use Rattle.ipc_hub.specs.Marking.{is_set, owner_of}
use Rattle.ipc_hub.specs.MarkedCore.{MarkedView}

-- the session was started, and is live exactly as long as the connection is not over
pub record IsSessionOf (a : CoreView) (x : Connection) (sid : Sid) : Type 0 where
  pub started : sid.0 < hellos a.history
  pub live_is : live a.history sid.0 ≡ not x.is_over

-- no two connections have one session, and a connection whose hello was refused has none
pub record EachHasItsOwn (a : CoreView) (xs : List Connection) : Type 0 where
  pub own : (i : ℕ) (x : Connection) (sid : Sid) → slice_get xs i ≡ Some x → x.session ≡ Some sid → IsSessionOf a x sid
  pub apart : (i j : ℕ) (x y : Connection) (sid : Sid) → slice_get xs i ≡ Some x → slice_get xs j ≡ Some y → x.session ≡ Some sid → y.session ≡ Some sid → i ≡ j
  pub refused : (i : ℕ) (x : Connection) → slice_get xs i ≡ Some x → x.has_refusal ≡ true → (x.session ≡ None) × (x.is_over ≡ true)

-- and each connection may be marked, and keeps its flag and owns its session as long as it is not over
pub record Stands (m : MarkedView) (xs : List Connection) : Type 0 where
  pub sessions : EachHasItsOwn m.core xs
  pub count : length m.marked ≡ length xs
  pub many : length m.flagged ≡ length xs
  pub flagged : (i : ℕ) (x : Connection) → slice_get xs i ≡ Some x → x.is_over ≡ false → is_set m.flagged i ≡ true
  pub owned : (i : ℕ) (x : Connection) (sid : Sid) → slice_get xs i ≡ Some x → x.session ≡ Some sid → x.is_over ≡ false → owner_of m.owners sid.0 ≡ Some i
