use Rattle.std.proofs.Common.{sym, ap, ◌∙◌}
use Rattle.ipc_book.specs.Seats.{SeatView}
use Rattle.ipc_book.proofs.Counts.{counted_along}
use Rattle.ipc_book.proofs.close.tally_seat.Goals as goal

pub returns-clause-counted : goal.returns-clause-counted
returns-clause-counted g c xs h =
    counted_along c.args.core.now.history c.tally.new.counts xs c.entries.result.now.items c.args.seat.now.list (sym (ap (λ (s : SeatView). s.list) c.seat.view_is) ∙ sym c.entries.ensures) (c.tally.ensures.counted xs h)
