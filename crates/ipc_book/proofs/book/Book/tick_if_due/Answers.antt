use Rattle.std.proofs.Common.{rules, refl}
use Rattle.ipc_book.proofs.LastReceipts.{stale_told}
use Rattle.ipc_book.proofs.book.Book.tick_if_due.Goals as goal

pub returns-in_err-receipt-clause-stale : goal.returns-in_err-receipt-clause-stale
returns-in_err-receipt-clause-stale g c =
    let list = c.args.seat.now.list in
    stale_told c.args.self.now.core list list c.tick_for.result c.from_residual.result c.in_err-receipt.field-0.0 (search rules) (search rules) refl c.tick_for.ensures.stale
