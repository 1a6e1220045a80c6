use Rattle.std.proofs.lemmas.Result.{err_from_is_err_and}
use Rattle.ipc_wire.specs.Answers.{line_field}
use Rattle.ipc_fields.proofs.Beginning.{begins_on}
use Rattle.ipc_fields.proofs.Many.{writes_on, lacks_on, all_written}
use Rattle.ipc_wire.proofs.answer_writing.put_each_line.Goals as goal

pub loop-line-preserved : goal.loop-line-preserved
loop-line-preserved c = record {
  puts = writes_on line_field c.args.lines.now c.loop-line.line-index c.line-item.result c.loop-line.out.items c.put_line.new.out.items _ c.loop-line-test.true c.line-item.is c.in_ok-put_line.ensures.puts c.loop-line.invariant.puts;
  begins = begins_on c.loop-line.invariant.begins c.put_line.ensures.begins;
}

pub returns-clause-puts : goal.returns-clause-puts
returns-clause-puts c = all_written line_field c.args.lines.now c.loop-line.line-index c.loop-line.out.items _ c.loop-line-test.false c.loop-line.invariant.puts

pub returns-in_err-put_line-clause-puts : goal.returns-in_err-put_line-clause-puts
returns-in_err-put_line-clause-puts c =
    let p = err_from_is_err_and c.from_residual.result c.from_residual.ensures.1 in
    rw (p.1, p.2) (lacks_on line_field c.in_err-put_line.field-0.0 c.args.lines.now c.loop-line.line-index c.line-item.result c.args.out.now.items c.loop-line.out.items _ c.loop-line-test.true c.line-item.is c.in_err-put_line.ensures.puts c.loop-line.invariant.puts)

pub returns-in_err-put_line-clause-begins : goal.returns-in_err-put_line-clause-begins
returns-in_err-put_line-clause-begins c = begins_on c.loop-line.invariant.begins c.put_line.ensures.begins
