use Rattle.std.proofs.Common.{ap, ◌∙◌}
use Rattle.std.specs.Prelude.{option_and_then}
use Rattle.std.specs.Option.{option_map}
use Rattle.ipc_terms.specs.Lists.{first}
use Rattle.ipc_terms.specs.declared.record.Event.TheVariants.{Do}
use Rattle.ipc_queue.specs.declared.queue.ParkedSend.{ParkedSend}
use Rattle.ipc_queue.specs.Tickets.{Tickets}
use Rattle.ipc_sem.specs.Counters.{Counter}
use Rattle.ipc_state.proofs.Ending.{ends_send, ends_timed_send, ends_receive, ends_timed_receive, ends_post, ends_tick}
use Rattle.ipc_state.proofs.lookup.Lookup.ended.Goals as goal

pub returns-in-MqSend : goal.returns-in-MqSend
returns-in-MqSend c =
    let met = c.self.invariant in
    rw (← c.self.view_is) (ends_send _ _ _ c.self.inside.event.now c.in-Do.sid c.in-MqSend.desc c.in-MqSend.priority c.in-MqSend.bytes c.receiver_in.result met.core (c.in-Do.is ∙ ap (Do c.in-Do.sid) c.in-MqSend.is) (rw (← c.self.view_is) at (c.receiver_in.ensures ∙ ap (option_and_then (λ (q : Tickets). first q.receivers)) c.queue.ensures)))

pub returns-in-MqTimedSend : goal.returns-in-MqTimedSend
returns-in-MqTimedSend c =
    let met = c.self.invariant in
    rw (← c.self.view_is) (ends_timed_send _ _ _ c.self.inside.event.now c.in-Do.sid c.in-MqTimedSend.desc c.in-MqTimedSend.priority c.in-MqTimedSend.deadline c.in-MqTimedSend.bytes c.receiver_in-in-MqTimedSend.result met.core (c.in-Do.is ∙ ap (Do c.in-Do.sid) c.in-MqTimedSend.is) (rw (← c.self.view_is) at (c.receiver_in-in-MqTimedSend.ensures ∙ ap (option_and_then (λ (q : Tickets). first q.receivers)) c.queue-in-MqTimedSend.ensures)))

pub returns-in-MqReceive : goal.returns-in-MqReceive
returns-in-MqReceive c =
    let met = c.self.invariant in
    rw (← c.self.view_is) (ends_receive _ _ _ c.self.inside.event.now c.in-Do.sid c.in-MqReceive.desc c.in-MqReceive.length c.sender_in.result met.core (c.in-Do.is ∙ ap (Do c.in-Do.sid) c.in-MqReceive.is) (rw (← c.self.view_is) at (c.sender_in.ensures ∙ ap (option_and_then (λ (q : Tickets). option_map (λ (m : ParkedSend). m.session) (first q.senders))) c.queue-in-MqReceive.ensures)))

pub returns-in-MqTimedReceive : goal.returns-in-MqTimedReceive
returns-in-MqTimedReceive c =
    let met = c.self.invariant in
    rw (← c.self.view_is) (ends_timed_receive _ _ _ c.self.inside.event.now c.in-Do.sid c.in-MqTimedReceive.desc c.in-MqTimedReceive.length c.in-MqTimedReceive.deadline c.sender_in-in-MqTimedReceive.result met.core (c.in-Do.is ∙ ap (Do c.in-Do.sid) c.in-MqTimedReceive.is) (rw (← c.self.view_is) at (c.sender_in-in-MqTimedReceive.ensures ∙ ap (option_and_then (λ (q : Tickets). option_map (λ (m : ParkedSend). m.session) (first q.senders))) c.queue-in-MqTimedReceive.ensures)))

pub returns-in-SemPost : goal.returns-in-SemPost
returns-in-SemPost c =
    let met = c.self.invariant in
    rw (← c.self.view_is) (ends_post _ _ _ c.self.inside.event.now c.in-Do.sid c.in-SemPost.field-0 c.waiter_in.result met.core (c.in-Do.is ∙ ap (Do c.in-Do.sid) c.in-SemPost.is) (rw (← c.self.view_is) at (c.waiter_in.ensures ∙ ap (option_and_then (λ (q : Counter). first q.waiters)) c.semaphore.ensures.found)))

pub returns-in-Tick : goal.returns-in-Tick
returns-in-Tick c =
    let met = c.self.invariant in
    rw (← c.self.view_is) (ends_tick _ _ c.self.inside.clock.now c.self.inside.event.now c.in-Tick.moment c.due_at.result met.core.legal met.on_time c.in-Tick.is c.due_at.ensures)
