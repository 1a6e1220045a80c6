use Rattle.std.proofs.Common.{◌≡◌, refl, arith}
use Rattle.std.proofs.lemmas.Bool.Decides.{nat_tests}
use Rattle.ipc_containers.proofs.Holding.{none_left, popped, not_empty, filled_of_none, filled_of_one, others_of_filled, others_of_many, others_of_own}
use Rattle.ipc_containers.proofs.buckets.Buckets.drop_empty.Goals as goal
use Rattle.ipc_containers.proofs.buckets.Buckets.drop_empty.Goals.{else-other-key-via-then-other-key+else-is_empty, else-other-key-via-else-other-key}

pub returns-then-len-gt1-clause-filled : goal.returns-then-len-gt1-clause-filled
returns-then-len-gt1-clause-filled g c = λ alone. others_of_many _ c.args.key alone (let l = c.len.ensures.len in let more = c.if-len-gt1.true in grind (arith, nat_tests))

pub returns-in_default-clause-filled : goal.returns-in_default-clause-filled
returns-in_default-clause-filled g c = λ alone. others_of_filled _ c.args.key (filled_of_none c.args.self.now (none_left c.args.self.now.buckets.entries c.in_default.ensures.variant.1))

pub returns-then-is_empty-clause-filled : goal.returns-then-is_empty-clause-filled
returns-then-is_empty-clause-filled g c = λ alone.
    others_of_filled _ c.args.key (filled_of_none _ (popped c.pop_first.result _ _ c.pop_first.ensures.len (c.pop_first.ensures.variant.1 (c.in-Some.ensures.variant.0 refl)) (let l = c.len.ensures.len in let few = c.if-len-gt1.false in grind (arith, nat_tests))))

pub returns-else-other-key-clause-filled : goal.returns-else-other-key-clause-filled
returns-else-other-key-clause-filled g c = λ alone.
    let at = c.in-Some.ensures.value in
    elim c.else-other-key.branch [
      | else-other-key-via-then-other-key+else-is_empty w ↦ rw w.self-is (others_of_filled _ c.args.key (filled_of_one c.args.self.now c.in-Some.other.now c.in-Some.bucket.now alone at (not_empty c.in-Some.bucket.now _ w.is_empty.ensures.1 w.if-is_empty.false)))
      | else-other-key-via-else-other-key w ↦
          let same : c.in-Some.other.now ≡ c.args.key = let own = w.if-other-key.false in grind (arith, nat_tests) in
          rw w.self-is (others_of_own c.args.self.now c.args.key c.in-Some.bucket.now (let l = c.len.ensures.len in let few = c.if-len-gt1.false in grind (arith, nat_tests)) (rw (← same) at))
    ]
