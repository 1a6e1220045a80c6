use Rattle.std.proofs.Common.{◌≡◌, ◌++◌, take}
use Rattle.ipc_sockets.specs.Hellos.{beginnings, hellos}
use Rattle.ipc_sockets.proofs.sockets.Sockets.add_all.Given as goal

-- the listeners of the users so far stand behind those from before
abbrev pub invariant-loop-user : goal.invariant-loop-user
invariant-loop-user g l = beginnings l.self ≡ beginnings l.fn.self ++ hellos (take l.user-index l.users)
