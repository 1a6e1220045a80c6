use Rattle.std.proofs.Common.{◌≡◌, ℕ, ◌+◌, ◌-◌, length}
use Rattle.ipc_core.specs.Boxes.{untaken_by, room_for}
use Rattle.ipc_core.proofs.outboxes.Outboxes.reserve.Given as goal

-- an outbox that is not there yet holds nothing, as one past the end
abbrev pub invariant-loop-self : goal.invariant-loop-self
invariant-loop-self l = (s : ℕ) → (untaken_by l.self s ≡ untaken_by l.initial.self s) × (room_for l.self s ≡ room_for l.initial.self s)

abbrev pub decreases-loop-self : goal.decreases-loop-self
decreases-loop-self l = l.sid.0 + 1 - length l.self.boxes
