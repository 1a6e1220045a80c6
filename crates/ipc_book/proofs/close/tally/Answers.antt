use Rattle.std.proofs.Common.{rules, ◌≡◌, ◌+◌, ◌++◌, [], ◌∷◌, ◌&&◌, take, ap, sym, subst, append_assoc, ◌∙◌, get_or, take_all}
use Rattle.ipc_book.specs.Closing.{AllInTrail, Counted}
use Rattle.ipc_book.proofs.Counts.{stand_step, fall_step, one_more, counted_along}
use Rattle.ipc_book.proofs.close.tally.Goals as goal
use Rattle.ipc_book.proofs.close.tally.Goals.{then-not-note, else-not-note}

pub loop-entry-preserved : goal.loop-entry-preserved
loop-entry-preserved c =
    let log = c.args.core.now.history in
    let items = c.args.entries.now.items in
    let i = c.loop-entry.entry-index in
    let k = c.entry-item.result in
    let more : take (i + 1) items ≡ take i items ++ k ∷ [] = one_more items i c.entry-item.result (search rules) (c.entry-item.is ∙ ap (λ xs. get_or xs i c.entry-item.result) c.deref-entry-items.ensures.value) in
    let and : c.if-not-note.all ≡ (c.note.result && c.loop-entry.all) = elim c.if-not-note.branch [ then-not-note w ↦ search rules | else-not-note w ↦ search rules ] in
    record {
      stand = λ t. subst (AllInTrail log) (sym more) (stand_step log (take i items) k c.note.result c.loop-entry.all c.if-not-note.all and c.note.ensures.stands c.loop-entry.invariant.stand t);
      fall = λ t g. fall_step log (take i items) k c.note.result c.loop-entry.all c.if-not-note.all and c.note.ensures.stands c.loop-entry.invariant.fall t (subst (AllInTrail log) more g);
      counted = λ ks h. counted_along log c.note.new.counts ks (take i items ++ k ∷ []) (take (i + 1) items) more (subst (Counted log c.note.new.counts) (append_assoc ks (take i items) (k ∷ [])) (c.note.ensures.counted (ks ++ take i items) (c.loop-entry.invariant.counted ks h)));
    }

pub returns-clause-counted : goal.returns-clause-counted
returns-clause-counted c ks h =
    counted_along c.args.core.now.history c.loop-entry.counts ks (take c.loop-entry.entry-index c.args.entries.now.items) c.args.entries.now.items (search (rules, take_all)) (c.loop-entry.invariant.counted ks h)
