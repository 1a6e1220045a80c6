-- What is seen of a server: its hub, the ports of all links that it accepted by their numbers, none where a link is closed, who
-- gets a turn in the next round, how many links it opens, which records it keeps, whether somebody may be waiting to be accepted, and why accepting failed, if it did.
use Rattle.std.specs.Prelude.{◌≡◌, Bool, ◌&&◌, ◌==◌, ℕ, List, length, slice_get, Option, Some, None}
use Rattle.std.specs.declared.io.ErrorKind.{ErrorKind}
use Rattle.ipc_hub.specs.Hub.{Hub, IsGone}
use Rattle.ipc_loop.specs.Ports.{Port, how_many_open}
use Rattle.ipc_loop.specs.Bounds.{are_all}
use Rattle.ipc_loop.specs.declared.accepting.Bounds.{Bounds}
use Rattle.ipc_loop.specs.declared.keeping.Keeping.{Keeping}

pub record Server : Type 0 where
  pub hub : Hub
  pub ports : List (Option Port)
  pub turns : List ℕ
  pub bounds : Bounds
  pub keeping : Keeping
  pub may_accept : Bool
  pub pausing : Option ErrorKind

-- whether as many links were accepted as are to be, and none is open
abbrev pub is_over : Server → Bool
is_over server = are_all server.bounds.stop_after (length server.ports) && (how_many_open server.ports == 0)

-- each link that is closed left nothing
abbrev pub EachClosedIsGone : Hub → List (Option Port) → Type 0
EachClosedIsGone hub ports = (i : ℕ) → slice_get ports i ≡ Some None → IsGone hub i
