use Rattle.std.proofs.Common.{ap, sym, ◌∙◌, arith}
use Rattle.std.proofs.lemmas.Bool.Decides.{nat_tests}
use Rattle.std.specs.Option.{option_copied_mut}
use Rattle.ipc_containers.proofs.Holding.{some_found, not_empty, alone_written, alone_of_filled, filled_without}
use Rattle.ipc_containers.proofs.buckets.Buckets.leave.Goals as goal
use Rattle.ipc_containers.proofs.buckets.Buckets.leave.Goals.{else-is_empty-via-then-is_empty+else-len-gt1, else-is_empty-via-else-is_empty}

pub returns-then-len-gt1-clause-alone : goal.returns-then-len-gt1-clause-alone
returns-then-len-gt1-clause-alone g c = λ alone.
    let writes = c.get_mut.follows.holds c.pop.new.self in
    let at = sym c.get_mut.ensures.value ∙ ap option_copied_mut c.in-Some.is in
    alone_of_filled _ (filled_without c.args.self.now (record { alloc = c.args.self.now.alloc; buckets = c.get_mut.follows.lender c.pop.new.self }) _ c.args.key c.pop.new.self writes.2 (let l = c.len.ensures.len in let more = c.if-len-gt1.true in grind (arith, nat_tests)) (writes.3 (some_found _ _ at)).0 c.remove.ensures.updates.0 alone)

pub returns-else-is_empty-clause-alone : goal.returns-else-is_empty-clause-alone
returns-else-is_empty-clause-alone g c = λ alone.
    let writes = c.get_mut.follows.holds c.pop.new.self in
    let at = sym c.get_mut.ensures.value ∙ ap option_copied_mut c.in-Some.is in
    alone_written c.args.self.now _ c.args.key c.pop.new.self writes.1 (writes.3 (some_found _ _ at)).0 alone (λ empty. elim c.else-is_empty.branch [ else-is_empty-via-then-is_empty+else-len-gt1 w ↦ let l = w.len.ensures.len in let few = w.if-len-gt1.false in let same = writes.2 in grind (arith, nat_tests) | else-is_empty-via-else-is_empty w ↦ absurd (not_empty c.pop.new.self _ c.is_empty.ensures.1 w.if-is_empty.false empty) ])
