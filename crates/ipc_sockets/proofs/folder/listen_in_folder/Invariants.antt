use Rattle.std.proofs.Common.{◌≡◌, length}
use Rattle.ipc_sockets.proofs.folder.listen_in_folder.Given as goal

-- a listener for each user so far
abbrev pub invariant-loop-user : goal.invariant-loop-user
invariant-loop-user g l = length l.listeners.items ≡ l.user-index
