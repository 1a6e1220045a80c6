use Rattle.std.proofs.Common.{◌≡◌, ◌∙◌, length, arith}
use Rattle.ipc_fields.proofs.Beginning.{begun}
use Rattle.ipc_log.proofs.record_writing.put_record.Goals as goal

pub returns-in-Err-clause-err : goal.returns-in-Err-clause-err
returns-in-Err-clause-err c =
    let before : length c.args.out.now.items ≡ c.len-before.result = omega (arith, c.len-before.ensures, c.args.out.now.ok.0) in
    c.truncate.ensures.items ∙ begun c.len-before.result before c.put_closed.ensures.begins
