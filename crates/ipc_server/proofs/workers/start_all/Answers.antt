use mathlib.Core.List.{[]}
use mir.Syntax.{named}
use denote.Ref.{NamedLft}
use denote.Param.{param}
use denote.Param.Send.{param_send}
use Rattle.ipc_book.specs.contracts.seat.Seat as seat
use Rattle.ipc_server.specs.contracts.workers.Crew as crew
use Rattle.ipc_server.proofs.Crossing.{borrows_send, crew_sync, seat_send}
use Rattle.ipc_server.proofs.workers.start_all.Goals as goal

pub spawn-requires-send-F : goal.spawn-requires-send-F
spawn-requires-send-F g c κs within =
    let L = param 1 g.row.L in
    let C = param 3 g.row.C in
    let G = param 4 g.row.G in
    let J = param 5 g.row.J in
    let a : NamedLft = record { mir = named 6; lft = κs.1.1.1.1.1.1.0 } in
    let b = c.type_bounds in
    let shared = crew_sync a L C G J g.L.Ledger b.send-L b.sync-L b.send-C b.sync-G b.sync-J in
    let sent = borrows_send [] (named 5) (named 7) κs.1.1.1.1.1.0 κs.1.1.1.1.1.1.1.0 (crew.the_row a L C G J g.L.Ledger) (param 2 g.row.R) (seat.the_row L g.L.Ledger) shared b.sync-R (seat_send L g.L.Ledger b.send-L) in
    record { owned = sent.owned; leaving = (param_send 1 _ sent).leaving }
