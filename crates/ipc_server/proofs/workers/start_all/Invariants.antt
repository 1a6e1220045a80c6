use Rattle.std.proofs.Common.{◌≡◌, ◌≤◌, ◌+◌, vec_len, vec_capacity}
use Rattle.ipc_server.proofs.workers.start_all.Given as goal

abbrev pub invariant-loop-seat : goal.invariant-loop-seat
invariant-loop-seat g l =
    (vec_len l.seats + vec_len l.handles ≡ vec_len l.fn.seats + vec_len l.fn.handles)
    × ((vec_len l.fn.seats + vec_len l.fn.handles ≤ vec_capacity l.handles) × (vec_capacity l.fn.seats ≤ vec_capacity l.seats))

abbrev pub decreases-loop-seat : goal.decreases-loop-seat
decreases-loop-seat g l = vec_len l.seats
