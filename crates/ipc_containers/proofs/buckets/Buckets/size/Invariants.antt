use Rattle.std.proofs.Common.{◌≡◌, ◌+◌, ◌≤◌}
use Rattle.std.specs.Prelude.{min}
use Rattle.std.specs.List.{sum_by}
use Rattle.std.specs.Map.{values_of}
use Rattle.ipc_containers.proofs.buckets.Buckets.size.Given as goal

-- what was added up, and what is left, make all
abbrev pub invariant-loop-bucket : goal.invariant-loop-bucket
invariant-loop-bucket g l = record {
  all : min (l.size + sum_by (λ items. sum_by g.T.Measured.size items) l.bucket-iterator) 18446744073709551615 ≡ min (sum_by (λ items. sum_by g.T.Measured.size items) (values_of l.self.buckets.entries)) 18446744073709551615;
  bounded : l.size ≤ 18446744073709551615;
}
