use mathlib.Core.List.{[], ◌∷◌}
use mir.Syntax.{named}
use denote.Ref.{ShrRef}
use denote.Param.{param}
use denote.Param.Send.{param_send, recorded_send, struct_send, shr_send}
use denote.Struct.Declared.{shape}
use denote.Struct.Struct.{Struct}
use denote.Struct.Tuple.{type_at}
use Rattle.std.specs.contracts.alloc.Global as heap
use Rattle.std.proofs.alloc.Global.TheSendSync as global
use Rattle.ipc_book.specs.contracts.shared.Shared as shared
use Rattle.ipc_book.proofs.Crossing.{shared_sync}
use Rattle.test_server.specs.contracts.tests.ticker_tests.Told as tellings
use Rattle.test_server.proofs.tests.ticker_tests.Told.TheSendSync as told
use Rattle.test_server.proofs.tests.ticker_tests.serve_beside_ticker.Goals as goal

pub join-served-requires-send-F : goal.join-served-requires-send-F
join-served-requires-send-F g c κs within =
    let R = param 1 g.row.R in
    let B = shared.the_row (param 0 g.row.L) g.L.Ledger in
    let S = tellings.the_row in
    let T = type_at [] (ShrRef (named 6) κs.1.1.1.1.1.1.0 R ∷ heap.the_row ∷ ShrRef (named 7) κs.1.1.1.1.1.1.1.0 B ∷ ShrRef (named 8) κs.1.1.1.1.1.1.1.1.0 S ∷ []) in
    let first = shr_send (named 6) κs.1.1.1.1.1.1.0 R c.type_bounds.sync-R in
    let third = shr_send (named 7) κs.1.1.1.1.1.1.1.0 B (shared_sync (param 0 g.row.L) g.L.Ledger) in
    let last = shr_send (named 8) κs.1.1.1.1.1.1.1.1.0 S told.the_sync in
    let sent = recorded_send (Struct (shape T)) T.D T.to T.to_one (struct_send (shape T) (first, (global.the_send, (third, (last, tt))))) in
    record { owned = sent.owned; leaving = (param_send 1 _ sent).leaving }
