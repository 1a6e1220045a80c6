use Rattle.std.proofs.Common.{◌≡◌, length, arith}
use Rattle.std.proofs.lemmas.Result.{err_from_is_err_and}
use Rattle.ipc_fields.proofs.Beginning.{begins_on}
use Rattle.ipc_fields.proofs.FramingLemmas.{frame_put, frame_lacks, frame_begins, frame_room}
use Rattle.ipc_wire.proofs.framing.put_frame.Goals as goal

pub close_frame-requires : goal.close_frame-requires
close_frame-requires g c =
    let start : c.len-start.result ≡ length c.args.out.now.items = omega (arith, c.len-start.ensures, c.args.out.now.ok.0) in
    let room = frame_room c.args.out.now.items c.put_u32.new.out.items c.put_body.new.out.items c.len-start.result start c.in_ok-put_u32.ensures.puts c.put_body.ensures.begins in
    omega (arith, room, c.put_body.new.out.ok.0)

pub returns-clause-puts : goal.returns-clause-puts
returns-clause-puts g c =
    let start : c.len-start.result ≡ length c.args.out.now.items = omega (arith, c.len-start.ensures, c.args.out.now.ok.0) in
    frame_put c.args.out.now.items c.put_u32.new.out.items c.put_body.new.out.items c.close_frame.new.out.items c.len-start.result (g.M.Message.body_of c.args.message.now) c.close_frame.result start c.in_ok-put_u32.ensures.puts c.in_ok-put_body.ensures.puts c.close_frame.ensures.puts

pub returns-clause-begins : goal.returns-clause-begins
returns-clause-begins g c =
    let start : c.len-start.result ≡ length c.args.out.now.items = omega (arith, c.len-start.ensures, c.args.out.now.ok.0) in
    frame_begins c.args.out.now.items c.put_body.new.out.items c.close_frame.new.out.items c.len-start.result start (begins_on c.put_u32.ensures.begins c.put_body.ensures.begins) c.close_frame.ensures.begins

pub returns-in_err-put_body-clause-puts : goal.returns-in_err-put_body-clause-puts
returns-in_err-put_body-clause-puts g c =
    let p = err_from_is_err_and c.from_residual-in_err-put_body.result c.from_residual-in_err-put_body.ensures.1 in
    rw (p.1, p.2) (frame_lacks c.in_err-put_body.field-0.0 (g.M.Message.body_of c.args.message.now) c.in_err-put_body.ensures.puts)
