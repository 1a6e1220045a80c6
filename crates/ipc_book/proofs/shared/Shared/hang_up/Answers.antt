use Rattle.std.proofs.Common.{ap}
use Rattle.ipc_book.specs.Seats.{SeatView}
use Rattle.ipc_book.proofs.Collected.{stale_says}
use Rattle.ipc_book.proofs.shared.Shared.hang_up.Goals as goal

pub returns-clause-stale : goal.returns-clause-stale
returns-clause-stale g c =
    stale_says c.deref_mut.result.now.core c.make_room.new.self.list c.args.seat.now.list c.hang_up_for.result (ap (λ (s : SeatView). s.list) c.make_room.ensures) c.hang_up_for.ensures.stale
