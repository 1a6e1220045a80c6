use Rattle.std.proofs.Common.{rules, refl}
use Rattle.std.specs.Prelude.{Err}
use Rattle.ipc_book.specs.Seats.{without_event}
use Rattle.ipc_book.proofs.LastReceipts.{stale_across}
use Rattle.ipc_book.proofs.book.Book.offer_with_copy.Goals as goal

pub returns-in-Do-clause-stale : goal.returns-in-Do-clause-stale
returns-in-Do-clause-stale g c room =
    stale_across c.args.self.now.core c.args.seat.now.list (without_event c.step_with_copy.result) (Err c.in-Err.field-0.fault) c.in-Err.field-0.fault (search rules) refl c.step_with_copy.ensures.stale
