-- What a fork is, and what it is seen as.
use Rattle.std.proofs.Common.{◌≡◌, ℕ, ◌+◌, ◌<◌, ◌≤◌, List, [], ◌∷◌, ◌++◌, length, sym, ap, ◌∙◌, subst, arith, length-append}
use Rattle.std.proofs.lemmas.List.{append_assoc, append-nil}
use Rattle.std.specs.Prelude.{min}
use Rattle.ipc_containers.specs.declared.timed.Timed.{Timed}
use Rattle.ipc_containers.specs.Calls.{without, AllBelow, AllFrom, IsLeast}
use Rattle.ipc_containers.specs.declared.tree.Node.{Node}
use Rattle.ipc_containers.specs.declared.tree.Node.TheVariants.{Leaf, Fork}
use Rattle.ipc_containers.specs.Trees.{IsFork, IsTree, calls}
use Rattle.ipc_containers.proofs.CallsLemmas.{least_both, least_one, below_both, below_higher, below_right, from_both, middle_below, without_both, without_from, without_below, below_without, from_without}

-- the greatest place of a fork's right side is that of the fork
pub last_of : (l : List Timed) (m n : ℕ) (r : List Timed) (k : ℕ) → IsFork l m n r → AllBelow (k + 1) r → AllBelow (k + 1) (l ++ r)
last_of l m n r k is last = let lt = middle_below m (k + 1) r is.some_right is.from_on last in below_both (k + 1) l r (below_higher m (k + 1) l (omega arith) is.below) last

-- a call comes behind those of the right side
pub pushed : (l : List Timed) (m n : ℕ) (r : List Timed) (call : Timed) → IsFork l m n r → AllBelow call.place (l ++ r) → IsFork l m (min n call.deadline) (r ++ call ∷ [])
pushed l m n r call is behind =
    let lt = middle_below m call.place r is.some_right is.from_on (below_right call.place l r behind) in
    record {
      below = is.below;
      from_on = from_both m r (call ∷ []) is.from_on ((omega arith), tt);
      least_kept = subst (IsLeast (min n call.deadline)) (append_assoc l r (call ∷ [])) (least_both n call.deadline (l ++ r) (call ∷ []) is.least_kept (least_one call));
      some_left = is.some_left;
      some_right = omega (arith, length-append r (call ∷ []));
    }

-- all calls, and one behind them
pub forked : (l : List Timed) (m n : ℕ) (call : Timed) → 1 ≤ length l → AllBelow m l → m ≤ call.place → IsLeast n l → IsFork l m (min n call.deadline) (call ∷ [])
forked l m n call some below le least = record {
  below = below;
  from_on = (le, tt);
  least_kept = least_both n call.deadline l (call ∷ []) least (least_one call);
  some_left = some;
  some_right = omega arith;
}

-- a tree has a call
pub some_calls : (n : Node) → IsTree n → 1 ≤ length (calls n)
some_calls (Leaf call) is = omega arith
some_calls (Fork left middle least right) is = omega (arith, length-append left.value right.value, is.some_left)

-- the sides after a place was taken out of one of them
pub record Removed (m p : ℕ) (l r l' r' : List Timed) : Type 0 where
  pub whole : l' ++ r' ≡ without p (l ++ r)
  pub below : AllBelow m l'
  pub from_on : AllFrom m r'

pub removed_left : (l : List Timed) (m n : ℕ) (r l' : List Timed) (p : ℕ) → IsFork l m n r → p < m → l' ≡ without p l → Removed m p l r l' r
removed_left l m n r l' p is lt e = record {
  whole = ap (λ x. x ++ r) e ∙ ap (λ x. without p l ++ x) (sym (without_from p m r lt is.from_on)) ∙ sym (without_both p l r);
  below = subst (AllBelow m) (sym e) (below_without p m l is.below);
  from_on = is.from_on;
}

pub removed_right : (l : List Timed) (m n : ℕ) (r r' : List Timed) (p : ℕ) → IsFork l m n r → m ≤ p → r' ≡ without p r → Removed m p l r l r'
removed_right l m n r r' p is le e = record {
  whole = ap (λ x. l ++ x) e ∙ ap (λ x. x ++ without p r) (sym (without_below p m l le is.below)) ∙ sym (without_both p l r);
  below = is.below;
  from_on = subst (AllFrom m) (sym e) (from_without p m r is.from_on);
}

pub still_fork : (m p a b : ℕ) (l r l' r' : List Timed) → Removed m p l r l' r' → IsLeast a l' → IsLeast b r' → 1 ≤ length l' → 1 ≤ length r' → IsFork l' m (min a b) r'
still_fork m p a b l r l' r' is x y some some' = record { below = is.below; from_on = is.from_on; least_kept = least_both a b l' r' x y; some_left = some; some_right = some' }

-- where one side was the call of the place alone, the other is left
pub left_alone : (l : List Timed) (m n : ℕ) (r : List Timed) (p : ℕ) → IsFork l m n r → p < m → without p l ≡ [] → r ≡ without p (l ++ r)
left_alone l m n r p is lt none = sym (without_from p m r lt is.from_on) ∙ ap (λ x. x ++ without p r) (sym none) ∙ sym (without_both p l r)

pub right_alone : (l : List Timed) (m n : ℕ) (r : List Timed) (p : ℕ) → IsFork l m n r → m ≤ p → without p r ≡ [] → l ≡ without p (l ++ r)
right_alone l m n r p is le none = sym (append-nil l) ∙ ap (λ x. l ++ x) (sym none) ∙ ap (λ x. x ++ without p r) (sym (without_below p m l le is.below)) ∙ sym (without_both p l r)
