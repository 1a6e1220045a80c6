use Rattle.std.proofs.Common.{rules, ◌≡◌, ◌+◌, ◌++◌, length, ◌&&◌, take, arith, ap, sym, subst, ◌∙◌, get_or, take_all}
use Rattle.std.proofs.lemmas.Option.{slice_get_within}
use Rattle.ipc_book.specs.Closing.{AllInTrail, Counted, all_kept}
use Rattle.ipc_book.proofs.Counts.{stand_list, fall_list, all_more, order_more}
use Rattle.ipc_book.proofs.close.tally_all.Goals as goal
use Rattle.ipc_book.proofs.close.tally_all.Goals.{then-not-tally_seat, else-not-tally_seat}

pub loop-seat-preserved : goal.loop-seat-preserved
loop-seat-preserved g c =
    let log = c.args.core.now.history in
    let seats = c.args.seats.now.items in
    let i = c.loop-seat.seat-index in
    let x = c.seat-item.result in
    let xs = all_kept (take i seats) in
    let is : x ≡ get_or seats i x = c.seat-item.is ∙ ap (λ v. get_or v i x) c.deref-seat-items.ensures.value in
    let more : all_kept (take (i + 1) seats) ≡ xs ++ x.list = all_more seats i x (search rules) is in
    let and : c.if-not-tally_seat.all ≡ (c.tally_seat.result && c.loop-seat.all) = elim c.if-not-tally_seat.branch [ then-not-tally_seat w ↦ search rules | else-not-tally_seat w ↦ search rules ] in
    record {
      stand = λ t. subst (AllInTrail log) (sym more) (stand_list log xs x.list c.tally_seat.result c.loop-seat.all c.if-not-tally_seat.all and c.tally_seat.ensures.stand c.loop-seat.invariant.stand t);
      fall = λ t v. fall_list log xs x.list c.tally_seat.result c.loop-seat.all c.if-not-tally_seat.all and c.tally_seat.ensures.fall c.loop-seat.invariant.fall t (subst (AllInTrail log) more v);
      counted = λ h. subst (Counted log c.tally_seat.new.counts) (sym more) (c.tally_seat.ensures.counted xs (c.loop-seat.invariant.counted h));
      order = order_more seats i x is c.in_order.ensures.order c.loop-seat.invariant.order;
    }

pub returns-clause-counted : goal.returns-clause-counted
returns-clause-counted g c h =
    let whole : take c.loop-seat.seat-index c.args.seats.now.items ≡ c.args.seats.now.items = search (rules, take_all) in
    subst (Counted c.args.core.now.history c.loop-seat.counts) (ap all_kept whole) (c.loop-seat.invariant.counted h)

pub returns-clause-order : goal.returns-clause-order
returns-clause-order g c i s at =
    let w = slice_get_within c.args.seats.now.items i s at in
    c.loop-seat.invariant.order i s (omega (arith, c.deref-seat-items.ensures.len, ap length c.deref-seat-items.ensures.value)) at
