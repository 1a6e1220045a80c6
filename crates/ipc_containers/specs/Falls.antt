-- Each side of a fork has fewer calls than the fork.
use Rattle.std.specs.Prelude.{◌≤◌, max, length}
use Rattle.std.proofs.Common.{arith, length-append}
use Rattle.ipc_containers.specs.declared.tree.Node.{Node}
use Rattle.ipc_containers.specs.declared.tree.Node.TheVariants.{Leaf, Fork}
use Rattle.ipc_containers.specs.declared.tree.Tree.TheDeep.{deep-Node}
use Rattle.ipc_containers.specs.Trees.{calls, IsTree}

pub depth_le-length : (n : Node) → IsTree n → max (deep-Node n) 0 ≤ length (calls n)
depth_le-length (Leaf call) is = omega arith
depth_le-length (Fork left middle least right) is = omega (arith, length-append left.value right.value, is.some_left, is.some_right)
