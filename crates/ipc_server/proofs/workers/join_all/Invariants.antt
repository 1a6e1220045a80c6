use Rattle.std.proofs.Common.{◌≡◌, ◌≤◌, ◌+◌, length, vec_len, vec_capacity}
use Rattle.ipc_server.proofs.workers.join_all.Given as goal

abbrev pub invariant-loop-handle : goal.invariant-loop-handle
invariant-loop-handle g l = (vec_len l.seats ≡ vec_len l.fn.seats + length l.yielded) × (vec_capacity l.fn.seats ≤ vec_capacity l.seats)
