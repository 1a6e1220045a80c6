use Rattle.std.proofs.Common.{rules, ap, length}
use Rattle.ipc_book.specs.Seats.{SeatView, untaken_of}
use Rattle.ipc_book.proofs.LastReceipts.{offer_stale}
use Rattle.ipc_book.proofs.shared.Shared.offer.Goals as goal

pub returns-in_err-receipt-clause-stale : goal.returns-in_err-receipt-clause-stale
returns-in_err-receipt-clause-stale g c =
    let a = c.deref_mut.result.now.core in
    let fault = c.in_err-receipt.field-0.0 in
    offer_stale a c.make_room.new.self.list c.args.seat.now.list c.args.most (length (untaken_of a c.make_room.new.self.sid)) c.offer_with_copy.result c.from_residual.result fault.0 fault.1 (search rules) (search rules) (ap (λ (s : SeatView). s.list) c.make_room.ensures) c.offer_with_copy.ensures.full c.offer_with_copy.ensures.stale
