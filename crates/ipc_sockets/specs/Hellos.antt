-- What connections at sockets begin with.
use Rattle.std.specs.Prelude.{ℕ, List, Option, Some, map}
use Rattle.ipc_sockets.specs.declared.folder.UserSocket.{UserSocket}
use Rattle.ipc_sockets.specs.declared.sockets.Sockets.{Sockets}

-- what connections begin with before their peers' bytes, listener by listener, if with anything
abbrev pub beginnings : {R : Type 0} → Sockets R → List (Option (List ℕ))
beginnings sockets = sockets.listeners

-- each user's own hello, in their order
abbrev pub hellos : List UserSocket → List (Option (List ℕ))
hellos users = map (λ user. Some user.hello) users
