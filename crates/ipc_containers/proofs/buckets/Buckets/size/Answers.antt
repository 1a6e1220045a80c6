use Rattle.std.proofs.Common.{◌+◌, ap, sym, ◌∙◌, arith}
use Rattle.std.specs.Prelude.{min}
use Rattle.std.specs.List.{sum_by}
use Rattle.std.proofs.lemmas.List.Sums.{sum_by-cons}
use Rattle.ipc_containers.specs.Buckets.{Holds}
use Rattle.ipc_containers.proofs.Sizes.{size_of_all, none_yet, bucket_more, at_most, at_end}
use Rattle.ipc_containers.proofs.buckets.Buckets.size.Goals as goal

pub loop-bucket-init : goal.loop-bucket-init
loop-bucket-init g c = record { all = ap (λ rest. min (0 + sum_by (λ items. sum_by g.T.Measured.size items) rest) 18446744073709551615) (c.into_iter-bucket-iterator.ensures.into_iter_gives ∙ c.values-bucket-items.ensures.rest) ∙ ap (λ n. min n 18446744073709551615) (none_yet _); bounded = omega arith }

pub loop-bucket-preserved : goal.loop-bucket-preserved
loop-bucket-preserved g c =
    let next = ap (sum_by (λ items. sum_by g.T.Measured.size items)) c.in-Some.ensures.steps ∙ sum_by-cons (λ items. sum_by g.T.Measured.size items) c.in-Some.bucket.now c.next.new.self in
    record {
      all = bucket_more 18446744073709551615 _ _ _ _ _ _ (ap (λ n. min (c.loop-bucket.size + n) 18446744073709551615) (sym next) ∙ c.loop-bucket.invariant.all) c.size.ensures c.saturating_add-size.ensures;
      bounded = at_most 18446744073709551615 _ _ _ c.saturating_add-size.ensures;
    }

pub returns : goal.returns
unfolding Holds
returns g c = λ key_of all holds.
    let size = g.T.Measured.size in
    let rest = c.in-None.ensures.steps.0 in
    let total = size_of_all size key_of c.args.self.now.buckets.entries all c.values-bucket-items.ensures.ordered holds.1 in
    at_end 18446744073709551615 _ _ _ c.loop-bucket.invariant.bounded c.loop-bucket.invariant.all (ap (sum_by (λ items. sum_by size items)) rest) ∙ ap (λ n. min n 18446744073709551615) total
