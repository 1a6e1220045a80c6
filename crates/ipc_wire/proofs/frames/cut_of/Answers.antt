use Rattle.std.proofs.Common.{◌≡◌, ◌++◌, ◌∷◌, []}
use Rattle.ipc_wire.specs.Streams.{cut}
use Rattle.ipc_wire.proofs.CutLemmas.{front-shorter, goes_on, waits, fails}
use Rattle.ipc_wire.proofs.frames.cut_of.Goals as goal

pub frames-smaller : goal.frames-smaller
frames-smaller c = front-shorter c.frames.first c.frames.rest.now c.in-Ok-Some.request c.in-Ok-Some.after.now (rw c.in-Ok-Some.field-0-is at c.in-Ok-Some.ensures)

pub frames-preserved : goal.frames-preserved
frames-preserved c =
    let pushed : c.push_request.new.requests.items ≡ c.frames.requests.items ++ c.in-Ok-Some.request ∷ [] = c.in_ok-push_request-in-Ok-Some.ensures in
    rw pushed (goes_on c.frames.requests.items c.frames.first c.frames.rest.now c.in-Ok-Some.request c.in-Ok-Some.after.now (cut c.args.first c.args.bytes.now) (rw c.in-Ok-Some.field-0-is at c.in-Ok-Some.ensures) c.frames.invariant)

pub returns-in-Ok-None : goal.returns-in-Ok-None
returns-in-Ok-None c = waits c.frames.requests.items c.frames.first c.frames.rest.now (cut c.args.first c.args.bytes.now) (rw c.in-Ok-None.field-0-is at c.in-Ok-None.ensures) c.frames.invariant

pub returns-in-Err-Wire : goal.returns-in-Err-Wire
returns-in-Err-Wire c = rw c.in-Err-Wire.field-0-is (fails c.frames.requests.items c.frames.first c.frames.rest.now c.in-Err-Wire.fault (cut c.args.first c.args.bytes.now) (rw c.in-Err-Wire.field-0-is at c.in-Err-Wire.ensures) c.frames.invariant)
