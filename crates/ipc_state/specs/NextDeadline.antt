-- The least deadline of the calls that are parked.
use Rattle.std.specs.Prelude.{◌≡◌, ℕ, ◌≤◌, max, Option, Some, is_some, MatchOption}
use Rattle.ipc_policy.specs.declared.config.Config.{Config}
use Rattle.ipc_policy.specs.Decides.History.{History}
use Rattle.ipc_policy.specs.Decides.Timed.{now, deadline_at, is_past}
use Rattle.ipc_policy.specs.Decides.Bodies.{due}
use Rattle.ipc_policy.specs.Decides.Parking.{Parked, parked}

-- session s is parked in a call that waits no longer than to t
pub record WaitsUntil (c : Config) (h : History) (s t : ℕ) : Type 0 where
  pub call : Parked
  pub is_parked : parked c h s ≡ Some call
  pub until : deadline_at h call.place ≡ Some t

-- so is some session, and none in a call that waits to an earlier deadline
pub record IsLeastDeadline (c : Config) (h : History) (t : ℕ) : Type 0 where
  pub session : ℕ
  pub waits : WaitsUntil c h session t
  pub least : (s u : ℕ) → WaitsUntil c h s u → t ≤ u

-- the least deadline of the parked calls, or none where no parked call has one
abbrev pub IsNextDeadline : Config → History → Option ℕ → Type 0
IsNextDeadline c h found = MatchOption found ((s t : ℕ) → WaitsUntil c h s t → ⊥) (IsLeastDeadline c h)

-- a tick ends a call exactly where this deadline is past
abbrev pub EndsOncePast : Config → History → Option ℕ → Type 0
EndsOncePast c h until = (moment : ℕ) → is_some (due c h moment) ≡ is_past (max moment (now h)) until
