use Rattle.std.proofs.Common.{◌≡◌, ◌∙◌, length, arith}
use Rattle.ipc_fields.proofs.Beginning.{begun}
use Rattle.ipc_wire.proofs.framing.put_message.Goals as goal

pub returns-in-Err-clause-err : goal.returns-in-Err-clause-err
returns-in-Err-clause-err g c =
    let before : length c.args.out.now.items ≡ c.len-before.result = omega (arith, c.len-before.ensures, c.args.out.now.ok.0) in
    c.truncate.ensures.items ∙ begun c.len-before.result before c.put_frame.ensures.begins
