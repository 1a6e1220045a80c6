use Rattle.std.proofs.Common.{◌+◌, ap, sym, ◌∙◌, arith}
use Rattle.std.specs.Prelude.{min}
use Rattle.std.specs.List.{sum_by}
use Rattle.std.specs.VecDeque.Iter.{deque_iter_rest}
use Rattle.std.proofs.lemmas.List.Sums.{sum_by-cons}
use Rattle.ipc_containers.proofs.Sizes.{first_of_all, none_at_first, one_more, at_most, at_end, none_left}
use Rattle.ipc_containers.proofs.bucket.Bucket.size.Goals as goal
use Rattle.ipc_containers.proofs.bucket.Bucket.size.Goals.{in-Some, in-None}

pub loop-item-init : goal.loop-item-init
loop-item-init g c =
    let size = g.T.Measured.size in
    let rest = ap deque_iter_rest c.into_iter-item-iterator.ensures.into_iter_gives ∙ c.iter-item-items.ensures.rest in
    elim c.match-self.branch [
      | in-Some w ↦
          let is = w.size-is ∙ w.size-size.ensures in
          let small = w.size-size.type_inv in
          let same = w.size-is in
          record { all = first_of_all 18446744073709551615 _ size _ _ _ _ _ c.self.view_is w.in-Some.is rest is; bounded = omega arith }
      | in-None w ↦ let none = w.size-is in record { all = none_at_first 18446744073709551615 _ size _ _ _ _ c.self.view_is w.in-None.is rest none; bounded = omega arith }
    ]

pub loop-item-preserved : goal.loop-item-preserved
loop-item-preserved g c =
    let size = g.T.Measured.size in
    let rest = deque_iter_rest c.next.new.self in
    let next = ap (sum_by size) c.in-Some-item.ensures.steps ∙ sum_by-cons size c.in-Some-item.item.now rest in
    let now = c.saturating_add-size.ensures ∙ ap (λ n. min (c.loop-item.size + n) 18446744073709551615) c.size.ensures in
    record {
      all = one_more 18446744073709551615 _ _ _ _ _ (ap (λ n. min (c.loop-item.size + n) 18446744073709551615) (sym next) ∙ c.loop-item.invariant.all) now;
      bounded = at_most 18446744073709551615 _ _ _ now;
    }

pub returns : goal.returns
returns g c = at_end 18446744073709551615 _ _ _ c.loop-item.invariant.bounded c.loop-item.invariant.all (none_left g.T.Measured.size _ c.in-None-item.ensures.steps.0)
