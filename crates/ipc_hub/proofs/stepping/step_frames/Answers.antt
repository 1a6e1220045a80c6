use Rattle.std.proofs.Common.{Ok, Some, None, Err, length, sym, ap, ◌∙◌}
use Rattle.ipc_wire.proofs.CutLemmas.{front-shorter}
use Rattle.ipc_wire.proofs.OrderLemmas.{front_stands}
use Rattle.std.specs.Prelude.{is_none}
use Rattle.ipc_hub.proofs.StepLemmas.{at_front, front_on, left_behind, hello_refused, cut_waits, cut_fails}
use Rattle.ipc_core.specs.CoreView.{CoreView}
use Rattle.ipc_hub.specs.Hub.{untaken_of}
use Rattle.ipc_hub.specs.Marking.{is_set}
use Rattle.ipc_hub.specs.Stepping.{is_full}
use Rattle.ipc_hub.proofs.FrameMarks.{request_goes, plain_ends, hung_up_goes, refused_ends}
use Rattle.ipc_hub.proofs.stepping.step_frames.Goals as goal

pub step_request-requires-clause-order : goal.step_request-requires-clause-order
step_request-requires-clause-order c =
    let found = at_front c.frames.session c.is_none.result c.frames.rest.now (Ok (Some (c.in-Ok-Some.request, c.in-Ok-Some.behind.now))) c.is_none.ensures (rw c.in-Ok-Some.field-0-is at c.in-Ok-Some.ensures) in
    front_stands (is_none c.frames.session) c.frames.rest.now c.in-Ok-Some.request c.in-Ok-Some.behind.now found

pub step_request-requires-clause-own : goal.step_request-requires-clause-own
step_request-requires-clause-own c = ap (λ bs. is_set bs c.args.own) c.frames.invariant.goes.follows.flagged ∙ c.requires

pub frames-smaller : goal.frames-smaller
frames-smaller c = front-shorter c.is_none.result c.frames.rest.now c.in-Ok-Some.request c.in-Ok-Some.behind.now (rw c.in-Ok-Some.field-0-is at c.in-Ok-Some.ensures)

pub frames-preserved : goal.frames-preserved
frames-preserved c =
    let found = at_front c.frames.session c.is_none.result c.frames.rest.now (Ok (Some (c.in-Ok-Some.request, c.in-Ok-Some.behind.now))) c.is_none.ensures (rw c.in-Ok-Some.field-0-is at c.in-Ok-Some.ensures) in
    record {
      frames = front_on c.args.core.now.core c.frames.core.core c.step_request.new.core.core c.args.session.now c.frames.session c.args.bytes.now c.frames.rest.now c.in-Ok-Some.behind.now c.in-Ok-Some.request c.in-Ok-Some-step_request.sid c.frames.invariant.frames found (rw c.in-Ok-Some-step_request.field-0-is at c.in-Ok-Some-step_request.ensures.session) c.in-Ok-Some-step_request.ensures.ok;
      rest = left_behind (is_none c.frames.session) c.args.bytes.now c.frames.rest.now c.in-Ok-Some.behind.now c.in-Ok-Some.request c.frames.invariant.rest found;
      goes = request_goes c.args.own c.args.most c.args.core.now c.frames.core c.step_request.new.core c.args.session.now c.frames.session c.in-Ok-Some.request c.in-Ok-Some-step_request.sid c.frames.invariant.goes (ap (λ (a : CoreView). is_full c.args.most (length (untaken_of a c.frames.session))) (sym c.core.ensures) ∙ sym c.is_full.ensures ∙ c.if-is_full.false) (rw c.in-Ok-Some-step_request.field-0-is at c.in-Ok-Some-step_request.ensures.session) c.in-Ok-Some-step_request.ensures.marks (rw c.in-Ok-Some-step_request.field-0-is at c.in-Ok-Some-step_request.ensures.starts) (rw c.in-Ok-Some-step_request.field-0-is at c.in-Ok-Some-step_request.ensures.few);
    }

pub returns-in-Ok-None-step_request-clause-steps : goal.returns-in-Ok-None-step_request-clause-steps
returns-in-Ok-None-step_request-clause-steps c =
    let found = at_front c.frames.session c.is_none.result c.frames.rest.now (Ok (Some (c.in-Ok-Some.request, c.in-Ok-Some.behind.now))) c.is_none.ensures (rw c.in-Ok-Some.field-0-is at c.in-Ok-Some.ensures) in
    hello_refused c.args.core.now.core c.frames.core.core c.step_request.new.core.core c.args.session.now c.frames.session c.args.bytes.now c.frames.rest.now c.in-Ok-Some.behind.now c.in-Ok-Some.request c.frames.invariant.frames found (rw c.in-Ok-None-step_request.field-0-is at c.in-Ok-None-step_request.ensures.session) c.in-Ok-None-step_request.ensures.ok

pub returns-in-Ok-None-clause-steps : goal.returns-in-Ok-None-clause-steps
returns-in-Ok-None-clause-steps c =
    let found = at_front c.frames.session c.is_none.result c.frames.rest.now (Ok None) c.is_none.ensures (rw c.in-Ok-None.field-0-is at c.in-Ok-None.ensures) in
    (c.frames.invariant.frames, cut_waits (is_none c.frames.session) c.frames.rest.now found)

pub returns-in-Ok-clause-steps : goal.returns-in-Ok-clause-steps
returns-in-Ok-clause-steps c =
    let found = at_front c.frames.session c.is_none.result c.frames.rest.now (Err c.in-Err-Wire.fault) c.is_none.ensures (rw c.in-Err-Wire.field-0-is at c.in-Err-Wire.ensures) in
    rw c.in-Err-Wire.field-0-is (record {
      middle = c.frames.core.core;
      frames = c.frames.invariant.frames;
      fault_is = cut_fails (is_none c.frames.session) c.frames.rest.now c.in-Err-Wire.fault found;
      hung_up = c.in-Ok.ensures.ok;
    })

pub returns-in-Ok-None-step_request-clause-marks : goal.returns-in-Ok-None-step_request-clause-marks
returns-in-Ok-None-step_request-clause-marks c = refused_ends c.args.own c.args.most c.args.core.now c.frames.core c.step_request.new.core c.args.session.now c.frames.session c.in-Ok-Some.request c.frames.invariant.goes (ap (λ (a : CoreView). is_full c.args.most (length (untaken_of a c.frames.session))) (sym c.core.ensures) ∙ sym c.is_full.ensures ∙ c.if-is_full.false) (rw c.in-Ok-None-step_request.field-0-is at c.in-Ok-None-step_request.ensures.session) c.in-Ok-None-step_request.ensures.marks (c.in-Ok-None-step_request.ensures.refused c.in-Ok-None-step_request.field-0-is)

pub returns-in-Ok-None-clause-marks : goal.returns-in-Ok-None-clause-marks
returns-in-Ok-None-clause-marks c = plain_ends _ c.args.own c.args.most c.args.core.now c.frames.core c.args.session.now c.frames.session (λ e. absurd cc) (λ e. absurd cc) c.frames.invariant.goes

pub returns-in-Ok-clause-marks : goal.returns-in-Ok-clause-marks
returns-in-Ok-clause-marks c = plain_ends _ c.args.own c.args.most c.args.core.now c.hang_up.new.core c.args.session.now c.frames.session (λ e. absurd cc) (λ e. absurd cc) (hung_up_goes c.args.own c.args.most c.args.core.now c.frames.core c.hang_up.new.core c.args.session.now c.frames.session c.frames.invariant.goes (ap (λ (a : CoreView). is_full c.args.most (length (untaken_of a c.frames.session))) (sym c.core.ensures) ∙ sym c.is_full.ensures ∙ c.if-is_full.false) c.in-Ok.ensures.marks c.in-Ok.ensures.few)
