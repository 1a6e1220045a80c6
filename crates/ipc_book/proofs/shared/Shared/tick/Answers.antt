use Rattle.std.proofs.Common.{rules, ap}
use Rattle.ipc_book.specs.Seats.{SeatView, without_event}
use Rattle.ipc_book.proofs.LastReceipts.{stale_told}
use Rattle.ipc_book.proofs.shared.Shared.tick.Goals as goal

pub returns-in_err-receipt-clause-stale : goal.returns-in_err-receipt-clause-stale
returns-in_err-receipt-clause-stale g c =
    stale_told c.deref_mut.result.now.core c.make_room.new.self.list c.args.seat.now.list (without_event c.step_with_copy.result) c.from_residual.result c.in_err-receipt.field-0.0.fault (search rules) (search rules) (ap (λ (s : SeatView). s.list) c.make_room.ensures) c.step_with_copy.ensures.stale
