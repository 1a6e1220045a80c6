use Rattle.std.proofs.Common.{rules, subst, sym, Some}
use Rattle.std.specs.Ordering.{nat_cmp}
use Rattle.std.specs.BTreeMap.{Updates}
use Rattle.ipc_script.proofs.LabelMapsLemmas.{follow_known, follow_new}
use Rattle.ipc_script.proofs.labels.enter.Goals as goal

pub returns-then-contains_key-clause-ok : goal.returns-then-contains_key-clause-ok
returns-then-contains_key-clause-ok c = λ started last follow.
    follow_known _ _ _ started _ c.in_ok-key.key follow c.in_ok-key.ensures.ok c.in_ok-insert.ensures.updates (search rules)

pub returns-clause-ok : goal.returns-clause-ok
returns-clause-ok c = λ started last follow.
    follow_new _ _ _ _ started _ c.in_ok-key.key follow c.in_ok-key.ensures.ok (search rules) (search rules)
    (subst (λ n. Updates nat_cmp c.args.places.now c.insert-2.new.self c.args.sid.0 (Some n)) (sym last) c.in_ok-insert-2.ensures.updates)
