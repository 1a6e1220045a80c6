use Rattle.std.proofs.Common.{refl}
use Rattle.ipc_terms.specs.declared.ids.Family.TheVariants.{Mq, Sem}
use Rattle.ipc_terms.specs.declared.call.Call.TheVariants.{Umask, MqSend, MqReceive, SemPost, SemWait, SemGetvalue, MqTimedSend, MqTimedReceive, SemTimedWait}
use Rattle.ipc_policy.proofs.Histories.Unforbidden.{caller_live, call_free}
use Rattle.ipc_core.proofs.Answering.{free_queue, free_semaphore, free_held}
use Rattle.ipc_core.proofs.answer.call_answers.Goals as goal

pub mask-requires : goal.mask-requires
mask-requires c =
    let accepted = rw c.in-Umask.is at c.requires.accepted in
    rw c.requires.event (caller_live _ _ c.args.sid (Umask c.in-Umask.field-0) accepted)

pub send_answers-requires : goal.send_answers-requires
send_answers-requires c =
    let w = c.in-MqSend in
    let accepted = rw w.is at c.requires.accepted in
    record {
      caller = rw c.requires.event refl;
      queue = rw (c.requires.event, w.is) (free_queue _ _ c.args.sid.0 w.desc.0 (call_free _ _ c.args.sid (MqSend w.desc w.priority w.bytes) Mq w.desc refl refl accepted).held);
    }

pub receive_answers-requires : goal.receive_answers-requires
receive_answers-requires c =
    let w = c.in-MqReceive in
    let accepted = rw w.is at c.requires.accepted in
    record {
      caller = rw c.requires.event refl;
      queue = rw (c.requires.event, w.is) (free_queue _ _ c.args.sid.0 w.desc.0 (call_free _ _ c.args.sid (MqReceive w.desc w.length) Mq w.desc refl refl accepted).held);
    }

pub post_answers-requires : goal.post_answers-requires
post_answers-requires c =
    let w = c.in-SemPost in
    let accepted = rw w.is at c.requires.accepted in
    rw (c.requires.event, w.is) (free_semaphore _ _ c.args.sid.0 w.field-0.0 (call_free _ _ c.args.sid (SemPost w.field-0) Sem w.field-0 refl refl accepted).held)

pub wait_answers-requires : goal.wait_answers-requires
wait_answers-requires c =
    let w = c.in-SemWait in
    let accepted = rw w.is at c.requires.accepted in
    rw (c.requires.event, w.is) (free_held _ _ c.args.sid.0 w.field-0.0 (call_free _ _ c.args.sid (SemWait w.field-0) Sem w.field-0 refl refl accepted).held)

pub value_told-requires : goal.value_told-requires
value_told-requires c =
    let w = c.in-SemGetvalue in
    let accepted = rw w.is at c.requires.accepted in
    rw (c.requires.event, w.is) (free_semaphore _ _ c.args.sid.0 w.field-0.0 (call_free _ _ c.args.sid (SemGetvalue w.field-0) Sem w.field-0 refl refl accepted).held)

pub send_answers-requires-in-MqTimedSend : goal.send_answers-requires-in-MqTimedSend
send_answers-requires-in-MqTimedSend c =
    let w = c.in-MqTimedSend in
    let accepted = rw w.is at c.requires.accepted in
    record {
      caller = rw c.requires.event refl;
      queue = rw (c.requires.event, w.is) (free_queue _ _ c.args.sid.0 w.desc.0 (call_free _ _ c.args.sid (MqTimedSend w.desc w.priority w.deadline w.bytes) Mq w.desc refl refl accepted).held);
    }

pub receive_answers-requires-in-MqTimedReceive : goal.receive_answers-requires-in-MqTimedReceive
receive_answers-requires-in-MqTimedReceive c =
    let w = c.in-MqTimedReceive in
    let accepted = rw w.is at c.requires.accepted in
    record {
      caller = rw c.requires.event refl;
      queue = rw (c.requires.event, w.is) (free_queue _ _ c.args.sid.0 w.desc.0 (call_free _ _ c.args.sid (MqTimedReceive w.desc w.length w.deadline) Mq w.desc refl refl accepted).held);
    }

pub wait_answers-requires-in-SemTimedWait : goal.wait_answers-requires-in-SemTimedWait
wait_answers-requires-in-SemTimedWait c =
    let w = c.in-SemTimedWait in
    let accepted = rw w.is at c.requires.accepted in
    rw (c.requires.event, w.is) (free_held _ _ c.args.sid.0 w.desc.0 (call_free _ _ c.args.sid (SemTimedWait w.desc w.deadline) Sem w.desc refl refl accepted).held)
