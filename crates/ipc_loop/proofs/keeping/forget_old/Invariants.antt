use Rattle.std.proofs.Common.{◌≡◌, ℕ, List, Option, max, ◌≤◌}
use Rattle.ipc_loop.specs.Keeping.{AreWithin}
use Rattle.ipc_loop.specs.Moves.{Moved}
use Rattle.ipc_loop.specs.Ports.{Port}
use Rattle.ipc_loop.specs.Serving.{Serves, KeepsUpToDate}
use Rattle.ipc_loop.proofs.keeping.forget_old.Given as goal

abbrev pub invariant-loop-left : goal.invariant-loop-left
invariant-loop-left g l = record {
  same : l.hub.core.history ≡ l.fn.hub.core.history;
  newest : (place : ℕ) → AreWithin l.fn.keeping place l.fn.hub.core.history → l.hub.core.first ≤ max l.fn.hub.core.first place;
  spare : l.hub.core.first ≤ max l.fn.hub.core.first (g.H.Host.spare l.fn.host);
  serves : (moves : Option (List Moved)) (ports : ℕ → Option Port) → Serves l.fn.hub moves ports l.hub moves ports;
  marks : (ports : ℕ → Option Port) → KeepsUpToDate l.fn.hub ports l.hub ports;
}

abbrev pub decreases-loop-left : goal.decreases-loop-left
decreases-loop-left g l = l.left
