use Rattle.std.proofs.Common.{take}
use Rattle.std.specs.List.{AllZip}
use Rattle.ipc_sockets.specs.Owners.{IsOf}
use Rattle.ipc_sockets.proofs.owners.sockets_of.Given as goal

-- a socket of each user so far
abbrev pub invariant-loop-user : goal.invariant-loop-user
invariant-loop-user l = AllZip IsOf (take l.user-index l.users) l.sockets.items
