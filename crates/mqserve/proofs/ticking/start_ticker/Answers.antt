use mathlib.Core.List.{[]}
use mir.Syntax.{named}
use denote.Ref.{NamedLft}
use denote.Param.{param}
use denote.Param.Send.{IsSync, param_send, sendable}
use Rattle.ipc_book.specs.contracts.seat.Seat as seat
use Rattle.ipc_book.specs.contracts.shared.Shared as shared
use Rattle.ipc_book.proofs.Crossing.{shared_sync}
use Rattle.ipc_server.proofs.Crossing.{borrows_send, seat_send}
use Rattle.mqserve.specs.contracts.ticking.ServerClock as clock
use Rattle.mqserve.proofs.ticking.ServerClock.TheSendSync as clocks
use Rattle.mqserve.proofs.ticking.start_ticker.Goals as goal

pub spawn-requires-send-F : goal.spawn-requires-send-F
spawn-requires-send-F g c κs within =
    let L = param 1 g.row.L in
    let R = param 2 g.row.R in
    let a : NamedLft = record { mir = named 6; lft = κs.1.1.1.1.1.1.0 } in
    let b = c.type_bounds in
    let clocked : IsSync (clock.the_row a R) = search (sendable, clocks.the_sync, b.sync-R) depth 20 in
    let sent = borrows_send [] (named 5) (named 7) κs.1.1.1.1.1.0 κs.1.1.1.1.1.1.1.0 (clock.the_row a R) (shared.the_row L g.L.Ledger) (seat.the_row L g.L.Ledger) clocked (shared_sync L g.L.Ledger) (seat_send L g.L.Ledger b.send-L) in
    record { owned = sent.owned; leaving = (param_send 1 _ sent).leaving }
