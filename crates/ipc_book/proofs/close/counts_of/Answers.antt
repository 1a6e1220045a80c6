use Rattle.std.proofs.Common.{rules, ◌≡◌, length, sym, subst, replicate}
use Rattle.std.proofs.lemmas.List.{with_items_is}
use Rattle.ipc_book.specs.Closing.{Counted, all_kept}
use Rattle.ipc_book.proofs.Counts.{counted_none}
use Rattle.ipc_book.proofs.close.counts_of.Goals as goal

pub returns-clause-counted : goal.returns-clause-counted
returns-clause-counted g c =
    let log = c.args.core.now.history in
    let zeros : c.as_mut_slice.result.now ≡ replicate (length log) 0 = search rules in
    let made = sym (with_items_is c.in-Ok.counts c.tally_all-all.new.counts (search rules)) in
    subst (λ v. Counted log v (all_kept c.args.seats.now.items)) made (c.tally_all-all.ensures.counted (counted_none log c.as_mut_slice.result.now zeros))
