-- What a node of the tree is seen as, and what holds of it.
use Rattle.std.specs.Prelude.{Bool, ℕ, ◌≤◌, if◌then◌else◌, List, [], ◌∷◌, ◌++◌, length, Option, Some, None}
use Rattle.ipc_containers.specs.declared.timed.Timed.{Timed}
use Rattle.ipc_containers.specs.declared.tree.Node.{Node}
use Rattle.ipc_containers.specs.declared.tree.Node.TheVariants.{Leaf, Fork}
use Rattle.ipc_containers.specs.Calls.{AllBelow, AllFrom, IsLeast}

-- its calls, in the order of their places
abbrev pub calls : Node → List Timed
calls (Leaf call) = call ∷ []
calls (Fork left middle least right) = left.value ++ right.value

-- each side has a call; the places of the left side are below the middle, those of the right side from it on; and the
-- least deadline is kept
pub record IsFork (left : List Timed) (middle least : ℕ) (right : List Timed) : Type 0 where
  pub below : AllBelow middle left
  pub from_on : AllFrom middle right
  pub least_kept : IsLeast least (left ++ right)
  pub some_left : 1 ≤ length left
  pub some_right : 1 ≤ length right

abbrev pub IsTree : Node → Type 0
IsTree (Leaf call) = Unit {0}
IsTree (Fork left middle least right) = IsFork left.value middle least right.value

-- the right side of a fork, or the left one
abbrev pub side : Node → Bool → Option (List Timed)
side (Leaf call) is_right = None
side (Fork left middle least right) is_right = Some (if is_right then right.value else left.value)
