use Rattle.std.proofs.lemmas.Result.{err_from_is_err_and}
use Rattle.ipc_fields.specs.Field.{text}
use Rattle.ipc_fields.proofs.Beginning.{begins_on}
use Rattle.ipc_fields.proofs.Many.{writes_on, lacks_on, all_written}
use Rattle.ipc_wire.proofs.answer_writing.put_each_name.Goals as goal

pub loop-name-preserved : goal.loop-name-preserved
loop-name-preserved c = record {
  puts = writes_on text c.args.names.now c.loop-name.name-index c.name-item.result c.loop-name.out.items c.put_text.new.out.items _ c.loop-name-test.true c.name-item.is (rw c.as_slice.ensures at c.in_ok-put_text.ensures.puts) c.loop-name.invariant.puts;
  begins = begins_on c.loop-name.invariant.begins c.put_text.ensures.begins;
}

pub returns-clause-puts : goal.returns-clause-puts
returns-clause-puts c = all_written text c.args.names.now c.loop-name.name-index c.loop-name.out.items _ c.loop-name-test.false c.loop-name.invariant.puts

pub returns-in_err-put_text-clause-puts : goal.returns-in_err-put_text-clause-puts
returns-in_err-put_text-clause-puts c =
    let p = err_from_is_err_and c.from_residual.result c.from_residual.ensures.1 in
    rw (p.1, p.2) (lacks_on text c.in_err-put_text.field-0.0 c.args.names.now c.loop-name.name-index c.name-item.result c.args.out.now.items c.loop-name.out.items _ c.loop-name-test.true c.name-item.is (rw c.as_slice.ensures at c.in_err-put_text.ensures.puts) c.loop-name.invariant.puts)

pub returns-in_err-put_text-clause-begins : goal.returns-in_err-put_text-clause-begins
returns-in_err-put_text-clause-begins c = begins_on c.loop-name.invariant.begins c.put_text.ensures.begins
