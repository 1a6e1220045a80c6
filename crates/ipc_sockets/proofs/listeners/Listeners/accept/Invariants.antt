use Rattle.std.proofs.Common.{◌≡◌}
use Rattle.ipc_sockets.proofs.listeners.Listeners.accept.Given as goal

-- what connections begin with stays
abbrev pub invariant-loop : goal.invariant-loop
invariant-loop l = l.self ≡ l.fn.self
