use Rattle.std.proofs.Common.{◌≡◌, length, arith}
use Rattle.std.proofs.lemmas.Result.{err_from_is_err_and}
use Rattle.ipc_fields.proofs.Beginning.{begins_on}
use Rattle.ipc_log.specs.Fields.{entry}
use Rattle.ipc_log.specs.Trail.{spell_record}
use Rattle.ipc_log.proofs.WritingLemmas.{record_put, record_room, closed_lacks, closed_begins}
use Rattle.ipc_log.proofs.record_writing.put_closed.Goals as goal

pub close_record-requires : goal.close_record-requires
close_record-requires c =
    let start : c.len-start.result ≡ length c.args.out.now.items = omega (arith, c.len-start.ensures, c.args.out.now.ok.0) in
    let room = record_room c.args.out.now.items c.put_u64.new.out.items c.put_entry.new.out.items c.len-start.result start c.in_ok-put_u64.ensures.puts c.put_entry.ensures.begins in
    omega (arith, room, c.put_entry.new.out.ok.0)

pub returns-clause-puts : goal.returns-clause-puts
unfolding spell_record
returns-clause-puts c =
    let start : c.len-start.result ≡ length c.args.out.now.items = omega (arith, c.len-start.ensures, c.args.out.now.ok.0) in
    record_put c.args.out.now.items c.put_u64.new.out.items c.put_entry.new.out.items c.close_record.new.out.items c.len-start.result (entry.spell (c.args.place, c.args.added.now)) c.close_record.result start c.in_ok-put_u64.ensures.puts c.in_ok-put_entry.ensures.puts c.close_record.ensures.puts

pub returns-clause-begins : goal.returns-clause-begins
returns-clause-begins c =
    let start : c.len-start.result ≡ length c.args.out.now.items = omega (arith, c.len-start.ensures, c.args.out.now.ok.0) in
    closed_begins c.args.out.now.items c.put_entry.new.out.items c.close_record.new.out.items c.len-start.result start (begins_on c.put_u64.ensures.begins c.put_entry.ensures.begins) c.close_record.ensures.begins

pub returns-in_err-put_entry-clause-puts : goal.returns-in_err-put_entry-clause-puts
unfolding spell_record
returns-in_err-put_entry-clause-puts c =
    let p = err_from_is_err_and c.from_residual-in_err-put_entry.result c.from_residual-in_err-put_entry.ensures.1 in
    rw (p.1, p.2) (closed_lacks c.in_err-put_entry.field-0.0 (entry.spell (c.args.place, c.args.added.now)) c.in_err-put_entry.ensures.puts)
