use Rattle.std.proofs.Common.{subst}
use Rattle.ipc_containers.specs.Trees.{IsTree}
use Rattle.ipc_containers.proofs.TreeAt.{last_of}
use Rattle.ipc_containers.proofs.tree.Tree.+last_place.Goals as goal

pub returns-in-Fork : goal.returns-in-Fork
returns-in-Fork t c =
    let is = subst IsTree c.in-Fork.is c.self.invariant in
    rw (← c.self.view_is, c.in-Fork.is) (last_of _ _ _ _ _ is (rw c.deref.ensures at c.last_place.ensures))
