use Rattle.std.proofs.Common.{◌≡◌, None}
use Rattle.ipc_server.specs.Begun.{GoesOnByTicks}
use Rattle.ipc_server.proofs.ticker.run_ticker.Given as goal

abbrev pub invariant-loop : goal.invariant-loop
invariant-loop g l = (l.seat.sid ≡ None) × GoesOnByTicks (g.C.Clock.may_show l.clock) l.fn.seat.list l.seat.list
