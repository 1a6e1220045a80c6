use Rattle.std.proofs.Common.{◌≡◌, [], ◌∷◌, ◌∙◌}
use Rattle.ipc_containers.proofs.TreeAt.{forked}
use Rattle.ipc_containers.proofs.tree.Tree.fork.Goals as goal

pub invariant_of-self : goal.invariant_of-self
invariant_of-self c =
    let right : c.in_ok-right.right.value ≡ c.args.call ∷ [] = c.in_ok-right.ensures.ok ∙ c.of-2.ensures in
    rw (c.swap.ensures.x_after, c.min-least.ensures, right) (forked c.args.self.now c.parting-middle.result c.least.result c.args.call c.least.ensures.some c.parting-middle.ensures.behind c.parting-middle.ensures.before c.least.ensures.least)
