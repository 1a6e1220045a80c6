use Rattle.std.proofs.Common.{◌≡◌, ◌++◌, ◌∷◌, []}
use Rattle.std.proofs.lemmas.Result.{err_from_is_err_and}
use Rattle.ipc_fields.specs.Field.{text, so_many}
use Rattle.ipc_fields.proofs.FieldLemmas.{ok_is}
use Rattle.ipc_fields.proofs.Many.{goes_on, ends, wants_memory, is_done}
use Rattle.ipc_wire.proofs.answer_reading.so_many_names.Goals as goal

pub returns-in_err-text : goal.returns-in_err-text
returns-in_err-text c =
    let p = err_from_is_err_and c.from_residual.result c.from_residual.ensures.1 in
    rw (p.1, p.2) (ends text c.in_err-text.field-0.0 c.loop.names.items c.args.count c.loop.counter c.loop.rest.now (so_many text c.args.count c.args.bytes.now) c.loop-test.true c.in_err-text.ensures c.loop.invariant)

pub returns-in_err-name : goal.returns-in_err-name
returns-in_err-name c =
    let p = err_from_is_err_and c.from_residual-in_err-name.result c.from_residual-in_err-name.ensures.1 in
    rw (p.1, p.2) (wants_memory c.in_err-name.field-0.0 c.in_ok-text.text.now (so_many text c.args.count c.args.bytes.now) c.in_err-name.ensures)

pub loop-preserved : goal.loop-preserved
loop-preserved c =
    let made : c.in_ok-text.text.now ≡ c.in_ok-name.name = ok_is _ _ c.in_ok-name.ensures in
    let pushed : c.push.new.self.items ≡ c.loop.names.items ++ c.in_ok-name.name ∷ [] = c.in_ok-push.ensures.items in
    rw (pushed, ← made) (goes_on text c.loop.names.items c.args.count c.loop.counter c.loop.rest.now c.in_ok-text.text.now c.in_ok-text.after.now (so_many text c.args.count c.args.bytes.now) c.loop-test.true c.in_ok-text.ensures c.loop.invariant)

pub returns : goal.returns
returns c = is_done text c.loop.names.items c.args.count c.loop.counter c.loop.rest.now (so_many text c.args.count c.args.bytes.now) c.loop-test.false c.loop.invariant
