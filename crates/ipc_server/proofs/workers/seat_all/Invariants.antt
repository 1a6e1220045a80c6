use Rattle.std.proofs.Common.{◌≡◌, ◌≤◌, vec_len, vec_capacity}
use Rattle.ipc_server.proofs.workers.seat_all.Given as goal

abbrev pub invariant-loop : goal.invariant-loop
invariant-loop g l = (vec_len l.seats ≡ l.counter) × (l.workers ≤ vec_capacity l.seats)
