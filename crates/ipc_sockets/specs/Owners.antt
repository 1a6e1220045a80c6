-- Users as owners of sockets.
use Rattle.std.specs.Prelude.{◌≡◌, Some, string_bytes}
use Rattle.ipc_access.specs.declared.users.User.{User}
use Rattle.ipc_sockets.specs.declared.folder.UserSocket.{UserSocket}
use Rattle.ipc_wire.specs.Streams.{spell}
use Rattle.ipc_wire.specs.declared.request.Request.TheVariants.{Hello}

-- the socket has the user's name, ID and group, and a connection there begins with the hello of the user's key
pub record IsOf (user : User) (socket : UserSocket) : Type 0 where
  pub name : string_bytes socket.name ≡ user.name
  pub owner : socket.user ≡ user.cred.uid
  pub group : socket.group ≡ user.cred.gid
  pub hello : spell (Hello user.key) ≡ Some socket.hello
