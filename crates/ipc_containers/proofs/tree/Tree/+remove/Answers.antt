use Rattle.std.proofs.Common.{◌≡◌, ℕ, cond, Some, sym, ap, subst, ◌∙◌, lt-ltb, le-ltb}
use Rattle.std.specs.Prelude.{nat_lt}
use Rattle.ipc_containers.specs.Calls.{without}
use Rattle.ipc_containers.specs.Trees.{IsTree, side}
use Rattle.ipc_containers.proofs.TreeAt.{Removed, removed_left, removed_right, still_fork, left_alone, right_alone}
use Rattle.ipc_containers.proofs.tree.Tree.+remove.Goals as goal
use Rattle.ipc_containers.proofs.tree.Tree.+remove.Goals.{then-is_left, else-is_left, in-Fork-1, in-Leaf-1}

-- the sides after the removal
removed : (t : ℕ) (c : goal.After-min t) → Removed c.in-Fork.middle c.args.place c.in-Fork.left.value c.in-Fork.right.value c.if-is_left.left.value c.if-is_left.right.value
removed t c =
    let is = subst IsTree c.in-Fork.is c.self.invariant in
    elim c.if-is_left.branch [
      | then-is_left w ↦ rw (w.left-is, w.right-is) (removed_left c.in-Fork.left.value _ _ c.in-Fork.right.value w.remove-is_alone.new.self c.args.place is w.if-is_left.true (w.remove-is_alone.ensures.rest (sym w.is_alone-is ∙ c.if-not-is_alone.true) ∙ ap (without c.args.place) w.deref_mut.ensures.value))
      | else-is_left w ↦ rw (w.left-is, w.right-is) (removed_right c.in-Fork.left.value _ _ c.in-Fork.right.value w.remove-is_alone-else-is_left.new.self c.args.place is w.if-is_left.false (w.remove-is_alone-else-is_left.ensures.rest (sym w.is_alone-is ∙ c.if-not-is_alone.true) ∙ ap (without c.args.place) w.deref_mut-else-is_left.ensures.value))
    ]

pub invariant_of-self-then-not-is_alone : goal.invariant_of-self-then-not-is_alone
invariant_of-self-then-not-is_alone t c = rw c.min.ensures (still_fork _ _ _ _ _ _ _ _ (removed t c) (rw (← c.deref.ensures) c.least.ensures.least) (rw (← c.deref-then-not-is_alone.ensures) c.least-then-not-is_alone.ensures.least) (rw (← c.deref.ensures) c.least.ensures.some) (rw (← c.deref-then-not-is_alone.ensures) c.least-then-not-is_alone.ensures.some))

pub returns-then-not-is_alone-clause-rest : goal.returns-then-not-is_alone-clause-rest
returns-then-not-is_alone-clause-rest t c e = rw (← c.self.view_is, c.in-Fork.is) (removed t c).whole

-- where a side was the call alone, the other is left
left_over : (t : ℕ) (c : goal.Joined-self-tree t) → c.in-Some.tree ≡ without c.args.place c.args.self.now
left_over t c =
    let is = subst IsTree c.in-Fork.is c.self.invariant in
    let found : Some c.in-Some.tree ≡ side c.replace-node.result (nat_lt c.args.place c.in-Fork.middle) = sym c.in-Some.is ∙ c.side_of.ensures in
    let kept : Some c.in-Some.tree ≡ Some (cond (nat_lt c.args.place c.in-Fork.middle) c.if-is_left.right.value c.if-is_left.left.value) = found ∙ ap (λ n. side n (nat_lt c.args.place c.in-Fork.middle)) c.replace-node.ensures.value in
    let one : c.in-Some.tree ≡ cond (nat_lt c.args.place c.in-Fork.middle) c.if-is_left.right.value c.if-is_left.left.value = cc in
    rw (← c.self.view_is, c.in-Fork.is) (elim c.if-is_left.branch [
      | then-is_left w ↦ one ∙ rw (lt-ltb _ _ w.if-is_left.true, w.right-is) (left_alone c.in-Fork.left.value _ _ c.in-Fork.right.value c.args.place is w.if-is_left.true (ap (without c.args.place) (sym w.deref_mut.ensures.value) ∙ w.remove-is_alone.ensures.alone (sym w.is_alone-is ∙ c.if-not-is_alone.false)))
      | else-is_left w ↦ one ∙ rw (le-ltb _ _ w.if-is_left.false, w.left-is) (right_alone c.in-Fork.left.value _ _ c.in-Fork.right.value c.args.place is w.if-is_left.false (ap (without c.args.place) (sym w.deref_mut-else-is_left.ensures.value) ∙ w.remove-is_alone-else-is_left.ensures.alone (sym w.is_alone-is ∙ c.if-not-is_alone.false)))
    ])

pub returns-in-Some-clause-rest : goal.returns-in-Some-clause-rest
returns-in-Some-clause-rest t c e = elim c.match-self-tree.branch [
  | in-Fork-1 w ↦ w.self-is ∙ c.tree.view_is ∙ left_over t c
  | in-Leaf-1 w ↦ w.self-is ∙ c.tree.view_is ∙ left_over t c
]
