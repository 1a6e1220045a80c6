use Rattle.std.proofs.Common.{rules, arith, sym, ◌∙◌}
use Rattle.std.proofs.lemmas.Bool.Decides.{nat_tests}
use Rattle.std.specs.BTreeMap.Entry.{entry_key}
use Rattle.std.specs.declared.collections.btree_map.Entry.TheVariants.{Occupied}
use Rattle.ipc_containers.specs.Buckets.{EmptyStandsAlone}
use Rattle.ipc_containers.proofs.Holding.{none_at_all, no_items, not_empty, few_where_empty, alone_written, alone_as_before, alone_of_filled, filled_without_key, still_held, none_left_of, greatest_left}
use Rattle.ipc_containers.proofs.buckets.Buckets.leave_greatest.Goals as goal
use Rattle.ipc_containers.proofs.buckets.Buckets.leave_greatest.Goals.{then-is_empty+then-not-is_only, else-is_empty, else-is_empty-via-then-is_empty+else-not-is_only, else-is_empty-via-else-is_empty}

pub returns-in_err-last : goal.returns-in_err-last
returns-in_err-last g c = λ items holds.
    rw c.from_residual.ensures (none_at_all c.args.self.now items holds c.in_err-last.ensures.variant.1, still_held c.args.self.now _ items holds (λ q. search rules) (λ alone. alone_as_before c.args.self.now _ (search rules) alone))

pub returns-in_err-item : goal.returns-in_err-item
returns-in_err-item g c = λ items holds.
    let key = entry_key (Occupied c.in_ok-last.last) in
    let at = sym c.in_ok-last.ensures.value.1 ∙ c.get_mut-bucket.ensures.value in
    rw c.from_residual-in_err-item.ensures
    (none_left_of c.args.self.now _ items key c.get_mut-bucket.result.now holds at (sym c.in_err-item.ensures.first) (λ q. search rules) (λ alone. alone_written c.args.self.now _ key c.pop.new.self (search rules) (λ q. search rules) alone (λ empty. few_where_empty c.args.self.now _ _ alone at (no_items _ (sym c.in_err-item.ensures.first)))))

pub returns : goal.returns
returns g c = λ items holds.
    let key = entry_key (Occupied c.in_ok-last.last) in
    let l = c.len-is_only.ensures.len in
    let alone : EmptyStandsAlone c.args.self.now → EmptyStandsAlone c.if-is_empty.self = λ alone. elim c.if-is_empty.branch [
      | then-is_empty+then-not-is_only w ↦ let several = w.if-not-is_only.true in rw w.self-is (alone_of_filled _ (filled_without_key c.args.self.now _ key (grind (arith, nat_tests)) (λ q. search rules) alone))
      | else-is_empty w ↦ elim w.else-is_empty.branch [
        | else-is_empty-via-then-is_empty+else-not-is_only v ↦ let only = v.if-not-is_only.false in rw (w.self-is, v.self-is) (alone_written c.args.self.now _ key c.pop.new.self (search rules) (λ q. search rules) alone (λ empty. grind (arith, nat_tests)))
        | else-is_empty-via-else-is_empty v ↦ rw (w.self-is, v.self-is) (alone_written c.args.self.now _ key c.pop.new.self (search rules) (λ q. search rules) alone (λ empty. absurd (not_empty c.pop.new.self _ c.is_empty.ensures.1 v.if-is_empty.false empty)))
      ]
    ] in
    greatest_left c.args.self.now c.if-is_empty.self items key c.in_ok-item.item c.get_mut-bucket.result.now holds (sym c.in_ok-last.ensures.value.1 ∙ c.get_mut-bucket.ensures.value) c.in_ok-last.ensures.greatest (sym c.in_ok-item.ensures.first) (λ q. search rules) alone
