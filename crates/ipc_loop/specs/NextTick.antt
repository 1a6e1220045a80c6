-- When a tick ends a call, and which ticks are made.
use Rattle.std.specs.Prelude.{◌≡◌, ◌≤◌, ◌<◌, true, false, ℕ, zero, suc}
use Rattle.ipc_hub.specs.Hub.{Hub, Ticks, would_end}

-- this is the least moment from another on at which a tick would end a call
pub record IsNextTick (hub : Hub) (from moment : ℕ) : Type 0 where
  pub from_on : from ≤ moment
  pub ends : would_end hub moment ≡ true
  pub none_before : (m : ℕ) → from ≤ m → m < moment → would_end hub m ≡ false

-- at no moment a tick would end a call
abbrev pub NoTick : Hub → Type 0
NoTick hub = (moment : ℕ) → would_end hub moment ≡ false

-- so many ticks of a moment are made, each where it ends a call
abbrev pub MakesTicks : ℕ → ℕ → Hub → Hub → Type 0
MakesTicks zero moment old new = new ≡ old
MakesTicks (suc count) moment old new = (before : Hub) × MakesTicks count moment old before × (would_end before moment ≡ true) × Ticks before moment new
