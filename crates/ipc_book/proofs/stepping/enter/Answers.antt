use Rattle.std.proofs.Common.{rules, ◌≡◌, ◌∷◌, [], ◌++◌, length, ◌∙◌}
use Rattle.ipc_book.specs.declared.entry.Entry.{Entry}
use Rattle.ipc_book.specs.Seats.{IsCurrent}
use Rattle.ipc_book.proofs.Places.{rises_push, one_longer}
use Rattle.ipc_book.proofs.stepping.enter.Goals as goal

pub invariant_of-receipts-2 : goal.invariant_of-receipts-2
invariant_of-receipts-2 g c =
    let h = c.args.core.now.history in
    let old = c.receipts.inside.entries.items in
    let new = c.push_reserved.new.self.items in
    let x : Entry = record { receipt = c.in-Some-receipt.receipt; event = c.in-Ok.copy } in
    let is : new ≡ old ++ x ∷ [] = search rules in
    let current : IsCurrent h old = search rules in
    let place : c.in-Some-receipt.receipt.place ≡ length h = search rules in
    (c.add.ensures.parts ∙ c.receipts.invariant.0, one_longer old new x c.receipts.inside.share.amount c.add.new.share.amount c.receipts.invariant.1 c.add.ensures.amount is, rises_push h old new x current place c.receipts.invariant.2 is)
