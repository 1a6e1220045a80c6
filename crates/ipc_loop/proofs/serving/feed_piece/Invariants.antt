use Rattle.std.proofs.Common.{◌≡◌}
use Rattle.ipc_loop.proofs.serving.feed_piece.Given as goal

-- nothing was fed yet
abbrev pub invariant-loop : goal.invariant-loop
invariant-loop l = l.hub ≡ l.fn.hub
