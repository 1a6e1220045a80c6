use Rattle.std.proofs.Common.{◌≡◌, ◌++◌, length, length-append, ap, sym, ◌∙◌, subst, arith}
use Rattle.ipc_containers.specs.Trees.{IsTree, calls}
use Rattle.ipc_containers.specs.Calls.{AllBelow}
use Rattle.ipc_containers.proofs.CallsLemmas.{below_right}
use Rattle.ipc_containers.proofs.TreeAt.{pushed}
use Rattle.ipc_containers.proofs.tree.Tree.+push.Goals as goal

pub push-requires : goal.push-requires
push-requires t c =
    let is = subst IsTree c.in-Fork.is c.self.invariant in
    let whole : c.args.self.now ≡ c.in-Fork.field-0.value ++ c.in-Fork.right.value = sym c.self.view_is ∙ ap calls c.in-Fork.is in
    let size : length c.args.self.now ≡ length (c.in-Fork.field-0.value ++ c.in-Fork.right.value) = ap length whole in
    let d = c.decreases in
    let behind : AllBelow c.args.call.place c.in-Fork.right.value = below_right c.args.call.place c.in-Fork.field-0.value c.in-Fork.right.value (rw whole at c.requires) in
    (rw c.deref_mut.ensures.value (omega (arith, d, size, is.some_left, length-append c.in-Fork.field-0.value c.in-Fork.right.value)), rw c.deref_mut.ensures.value behind)

pub invariant_of-self-then-is_below : goal.invariant_of-self-then-is_below
invariant_of-self-then-is_below t c =
    let is = subst IsTree c.in-Fork.is c.self.invariant in
    let behind = rw (← c.self.view_is, c.in-Fork.is) at c.requires in
    let ok = c.in_ok-push.ensures.ok in
    rw (c.min.ensures, ok, c.deref_mut.ensures.value) (pushed _ _ _ _ c.args.call is behind)
