use Rattle.std.proofs.Common.{◌∙◌, ap, sym, drop, length, ◌-◌, arith}
use Rattle.ipc_wire.specs.Streams.{Cut, cut}
use Rattle.ipc_wire.proofs.CutLemmas.{rest_dropped, rest_kept}
use Rattle.ipc_wire.proofs.frames.cut_behind.Goals as goal

pub overflow_sub-taken : goal.overflow_sub-taken
overflow_sub-taken c =
    let cut_is : Cut = record { requests = c.in-Ok.requests.items; rest = c.in-Ok.rest.now; fault = c.in-Ok.fault } in
    let short = (rest_dropped c.args.first c.deref.result.now cut_is c.in-Ok.ensures).0 in
    omega (arith, short, c.len.ensures, c.deref.ensures.len)

pub returns-in-Ok-clause-cut : goal.returns-in-Ok-clause-cut
returns-in-Ok-clause-cut c =
    let cut_is : Cut = record { requests = c.in-Ok.requests.items; rest = c.in-Ok.rest.now; fault = c.in-Ok.fault } in
    let whole = c.deref.ensures.value in
    let items = c.in_ok-extend_from_slice.ensures.items in
    ap (cut c.args.first) (sym (whole ∙ items))
    ∙ rest_kept c.args.first c.deref.result.now cut_is c.len.result c.remove_front.new.bytes.items c.in-Ok.ensures (omega (arith, c.len.ensures, c.deref.ensures.len))
    (c.remove_front.ensures.rest ∙ ap (drop (c.len.result - length c.in-Ok.rest.now)) (sym whole))
