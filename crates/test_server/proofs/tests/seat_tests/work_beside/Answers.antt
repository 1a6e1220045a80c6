use mir.Syntax.{named}
use denote.Param.{param}
use denote.Param.Send.{param_send}
use Rattle.ipc_book.specs.contracts.shared.Shared.{the_row}
use Rattle.ipc_book.proofs.Crossing.{borrows_send, shared_sync}
use Rattle.test_server.proofs.tests.seat_tests.work_beside.Goals as goal

pub join-one-requires-send-F : goal.join-one-requires-send-F
join-one-requires-send-F g c κs within =
    let L = param 0 g.row.L in
    let sent = borrows_send (named 6) (named 7) κs.1.1.1.1.1.1.0 κs.1.1.1.1.1.1.1.0 (param 1 g.row.R) (the_row L g.L.Ledger) c.type_bounds.sync-R (shared_sync L g.L.Ledger) in
    record { owned = sent.owned; leaving = (param_send 1 _ sent).leaving }
