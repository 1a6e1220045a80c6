use Rattle.std.proofs.Common.{◌≡◌, ◌+◌, ◌≤◌}
use Rattle.std.specs.Prelude.{min}
use Rattle.std.specs.List.{sum_by}
use Rattle.std.specs.VecDeque.Iter.{deque_iter_rest}
use Rattle.ipc_containers.proofs.bucket.Bucket.size.Given as goal

-- what was added up, and what is left, make all
abbrev pub invariant-loop-item : goal.invariant-loop-item
invariant-loop-item g l = record {
  all : min (l.size + sum_by g.T.Measured.size (deque_iter_rest l.item-iterator)) 18446744073709551615 ≡ min (sum_by g.T.Measured.size l.self) 18446744073709551615;
  bounded : l.size ≤ 18446744073709551615;
}
