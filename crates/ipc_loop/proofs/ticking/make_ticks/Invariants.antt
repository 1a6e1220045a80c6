use Rattle.std.proofs.Common.{ℕ, List, Option, ◌≤◌, ◌-◌}
use Rattle.ipc_loop.specs.Moves.{Moved}
use Rattle.ipc_loop.specs.Ports.{Port}
use Rattle.ipc_loop.specs.NextTick.{MakesTicks}
use Rattle.ipc_loop.specs.Serving.{Serves, KeepsUpToDate}
use Rattle.ipc_loop.proofs.ticking.make_ticks.Given as goal

abbrev pub invariant-loop-made : goal.invariant-loop-made
invariant-loop-made l = record {
  made : MakesTicks l.made l.fn.moment l.fn.hub l.hub;
  few : l.made ≤ 1024;
  serves : (moves : Option (List Moved)) (ports : ℕ → Option Port) → Serves l.fn.hub moves ports l.hub moves ports;
  marks : (ports : ℕ → Option Port) → KeepsUpToDate l.fn.hub ports l.hub ports;
}

abbrev pub decreases-loop-made : goal.decreases-loop-made
decreases-loop-made l = 1024 - l.made
