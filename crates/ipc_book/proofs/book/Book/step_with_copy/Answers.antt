use Rattle.std.proofs.Common.{ap}
use Rattle.ipc_book.specs.Seats.{SeatView, BookView, without_event}
use Rattle.ipc_book.proofs.LastReceipts.{stale_moved}
use Rattle.ipc_book.proofs.book.Book.step_with_copy.Goals as goal

pub returns-clause-stale : goal.returns-clause-stale
returns-clause-stale g c =
    stale_moved c.self.inside.core c.args.self.now.core c.seat.inside.receipts.list c.args.seat.now.list (without_event c.enter.result) (ap (λ (b : BookView). b.core) c.self.view_is) (ap (λ (s : SeatView). s.list) c.seat.view_is) c.enter.ensures.stale
