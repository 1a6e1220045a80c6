use Rattle.std.proofs.Common.{◌≡◌, ◌++◌, ◌∷◌, []}
use Rattle.std.proofs.lemmas.Result.{err_from_is_err_and}
use Rattle.ipc_fields.specs.Field.{so_many}
use Rattle.ipc_wire.specs.Answers.{line_field}
use Rattle.ipc_fields.proofs.Many.{goes_on, ends, is_done}
use Rattle.ipc_wire.proofs.answer_reading.so_many_lines.Goals as goal

pub returns-in_err-line : goal.returns-in_err-line
returns-in_err-line c =
    let p = err_from_is_err_and c.from_residual.result c.from_residual.ensures.1 in
    rw (p.1, p.2) (ends line_field c.in_err-line.field-0.0 c.loop.lines.items c.args.count c.loop.counter c.loop.rest.now (so_many line_field c.args.count c.args.bytes.now) c.loop-test.true c.in_err-line.ensures c.loop.invariant)

pub loop-preserved : goal.loop-preserved
loop-preserved c =
    let pushed : c.push.new.self.items ≡ c.loop.lines.items ++ c.in_ok-line.line ∷ [] = c.in_ok-push.ensures.items in
    rw pushed (goes_on line_field c.loop.lines.items c.args.count c.loop.counter c.loop.rest.now c.in_ok-line.line c.in_ok-line.after.now (so_many line_field c.args.count c.args.bytes.now) c.loop-test.true c.in_ok-line.ensures c.loop.invariant)

pub returns : goal.returns
returns c = is_done line_field c.loop.lines.items c.args.count c.loop.counter c.loop.rest.now (so_many line_field c.args.count c.args.bytes.now) c.loop-test.false c.loop.invariant
