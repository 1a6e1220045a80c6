use Rattle.std.proofs.Common.{rules, ◌≡◌, [], true, false, sym, ◌∙◌}
use Rattle.ipc_containers.proofs.Holding.{pushed_is_filled, filled_where_absent, filled_written, alone_of_filled, alone_as_before}
use Rattle.ipc_containers.proofs.buckets.Buckets.enter.Goals as goal

pub returns-in_err-bucket-clause-alone : goal.returns-in_err-bucket-clause-alone
returns-in_err-bucket-clause-alone g c = λ alone. alone_as_before c.drop_empty.new.self _ (search rules) (alone_of_filled _ (filled_where_absent c.drop_empty.new.self c.args.key (c.drop_empty.ensures.filled alone) c.in_err-bucket.ensures.absent))

pub returns-in_err-push-in-Occupied-clause-alone : goal.returns-in_err-push-in-Occupied-clause-alone
returns-in_err-push-in-Occupied-clause-alone g c = λ alone.
    let ensures = c.in_err-push-in-Occupied.ensures in
    alone_of_filled _ (filled_written c.drop_empty.new.self _ c.args.key c.push.new.self (c.drop_empty.ensures.filled alone) (λ q. search rules) (λ empty. let no : false ≡ true = ensures.without_memory (sym ensures.err ∙ empty) in absurd cc))

pub returns-in_ok-push-in-Occupied-clause-alone : goal.returns-in_ok-push-in-Occupied-clause-alone
returns-in_ok-push-in-Occupied-clause-alone g c = λ alone. alone_of_filled _ (filled_written c.drop_empty.new.self _ c.args.key c.push.new.self (c.drop_empty.ensures.filled alone) (λ q. search rules) (pushed_is_filled _ _ _ c.in_ok-push-in-Occupied.ensures.ok))

pub returns-in-Vacant-clause-alone : goal.returns-in-Vacant-clause-alone
returns-in-Vacant-clause-alone g c = λ alone. alone_of_filled _ (filled_written c.drop_empty.new.self _ c.args.key c.of.result (c.drop_empty.ensures.filled alone) (λ q. search rules) (pushed_is_filled [] _ c.args.item c.of.ensures))
