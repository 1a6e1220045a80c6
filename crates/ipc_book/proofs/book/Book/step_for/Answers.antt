use Rattle.std.proofs.Common.{rules}
use Rattle.ipc_book.specs.Seats.{without_event}
use Rattle.ipc_book.proofs.LastReceipts.{stale_across}
use Rattle.ipc_book.proofs.book.Book.step_for.Goals as goal

pub returns-in_err-receipt-clause-stale : goal.returns-in_err-receipt-clause-stale
returns-in_err-receipt-clause-stale g c =
    stale_across c.args.self.now.core c.args.seat.now.list (without_event c.step_with_copy.result) c.from_residual.result c.in_err-receipt.field-0.0.fault (search rules) (search rules) c.step_with_copy.ensures.stale
