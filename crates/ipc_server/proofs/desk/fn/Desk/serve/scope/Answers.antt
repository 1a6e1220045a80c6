use mir.Syntax.{named, of_param}
use denote.Exit.{unseen}
use mathlib.Core.List.{[]}
use denote.Ref.{NamedLft}
use denote.Param.{param}
use denote.Param.Send.{IsSend, IsSync, Quiet-if, param_send, param_sync}
use Rattle.ipc_server.specs.contracts.desk.Desk.{the_row}
use Rattle.ipc_server.proofs.Crossing.{borrows_send, desk_sync}
use Rattle.ipc_server.proofs.desk.fn.Desk.serve.scope.Goals as goal

pub spawn-requires-send-F : goal.spawn-requires-send-F
spawn-requires-send-F g c κs within =
    let L = param 0 g.row.L in
    let B = param 1 g.row.B in
    let G = param 2 g.row.G in
    let J = param 3 g.row.J in
    let a : NamedLft = record { mir = named 7; lft = κs.1.1.1.1.1.1.1.0 } in
    let sl : IsSend g.row.L = search (c.requires) in
    let yl : IsSync g.row.L = search (c.requires) in
    let sb : IsSend g.row.B = search (c.requires) in
    let yb : IsSync g.row.B = search (c.requires) in
    let yg : IsSync g.row.G = search (c.requires) in
    let yj : IsSync g.row.J = search (c.requires) in
    let yr : IsSync g.row.R = search (c.requires) in
    let so : IsSend g.row.O = search (c.requires) in
    let shared = desk_sync a L B G J g.L.Ledger g.B.Origin (param_send 0 _ sl) (param_sync 0 _ yl) (param_send 1 _ sb) (param_sync 1 _ yb) (param_sync 2 _ yg) (param_sync 3 _ yj) in
    let sent = borrows_send [] (named 5) (named 6) κs.1.1.1.1.1.0 κs.1.1.1.1.1.1.0 (param 4 g.row.R) (the_row a L B G J g.L.Ledger g.B.Origin) (param 6 g.row.O) (param_sync 4 _ yr) shared (param_send 6 _ so) in
    record { owned = sent.owned; leaving = λ k. Quiet-if (k (of_param 1)) _ unseen (λ x w. (tt, (tt, (tt, tt)))) (λ x w. tt) }
