-- Whose parked call an event ends, as the tables and the clock tell it.
use Rattle.std.proofs.Common.{◌≡◌, ℕ, List, [], ◌∷◌, Option, Some, None, refl, sym, ap, subst, ◌∙◌}
use Rattle.std.specs.Prelude.{find, map, max, option_and_then}
use Rattle.std.specs.Option.{option_map}
use Rattle.ipc_terms.specs.Lists.{first}
use Rattle.ipc_terms.specs.Timed.{plain}
use Rattle.ipc_terms.specs.declared.ids.Sid.{Sid}
use Rattle.ipc_terms.specs.declared.ids.Desc.{Desc}
use Rattle.ipc_terms.specs.declared.ids.Family.TheVariants.{Mq, Sem}
use Rattle.ipc_terms.specs.declared.call.Call.TheVariants.{MqSend, MqReceive, SemPost, MqTimedSend, MqTimedReceive}
use Rattle.ipc_terms.specs.declared.call.Attributes.{Attributes}
use Rattle.ipc_terms.specs.declared.record.Event.{Event}
use Rattle.ipc_terms.specs.declared.record.Event.TheVariants.{Do, Tick}
use Rattle.ipc_containers.specs.declared.timed.Timed.{Timed}
use Rattle.ipc_containers.specs.Calls.{is_over}
use Rattle.ipc_queue.specs.declared.queue.ParkedSend.{ParkedSend}
use Rattle.ipc_queue.specs.Tickets.{Tickets}
use Rattle.ipc_sem.specs.Counters.{Counter}
use Rattle.ipc_policy.specs.declared.config.Config.{Config}
use Rattle.ipc_policy.specs.declared.config.Held.{Held}
use Rattle.ipc_policy.specs.Decides.History.{History}
use Rattle.ipc_policy.specs.Decides.Timed.{now}
use Rattle.ipc_policy.specs.Decides.Descriptions.{holds}
use Rattle.ipc_policy.specs.Decides.Queues.{Send, Waiter}
use Rattle.ipc_policy.specs.Decides.Bodies.{queue, semaphore, senders, receivers, waiters, due}
use Rattle.ipc_policy.specs.Decides.Registrations.{registered}
use Rattle.ipc_policy.specs.Decides.Verdict.{verdict, Legal}
use Rattle.ipc_policy.proofs.Histories.Unforbidden.{IsFree, call_free}
use Rattle.ipc_policy.proofs.Blocked.DueLists.{first_is_due}
use Rattle.ipc_tables.specs.TablesView.{TablesView}
use Rattle.ipc_state.specs.declared.clock.Clock.{Clock}
use Rattle.ipc_state.specs.Agrees.{IsCore, sender_of, receiver_of, tickets_of, counter_of, queue_meant, semaphore_meant}
use Rattle.ipc_state.specs.Meetings.{by_description, queue_held, semaphore_held}
use Rattle.ipc_state.specs.OnTime.{ended_call, place_of, session_of, deadline_told, IsOnTime}
use Rattle.ipc_state.proofs.Accepted.{not_bad_held}
use Rattle.ipc_state.proofs.Serving.{call_here, semaphore_here}
use Rattle.ipc_state.proofs.Moving.{some_number}

first_receiver : (ws : List Waiter) → option_map (λ (x : Sid). x.0) (first (map receiver_of ws)) ≡ option_map (λ (w : Waiter). w.session) (first ws)
first_receiver [] = refl
first_receiver (w ∷ ws) = refl

first_sender : (ms : List Send) → option_map (λ (x : Sid). x.0) (option_map (λ (m : ParkedSend). m.session) (first (map sender_of ms))) ≡ option_map (λ (m : Send). m.session) (first ms)
first_sender [] = refl
first_sender (m ∷ ms) = refl

-- of the queue or the semaphore that a description gives
receiver_there : (c : Config) (h : History) (t : TablesView) (sid : Sid) (desc : Desc) → IsCore c h t → IsFree c h sid.0 Mq desc.0 → option_map (λ (x : Sid). x.0) (option_and_then (λ (q : Tickets). first q.receivers) (queue_held c h sid.0 desc.0)) ≡ option_and_then (λ (x : Held). option_map (λ (w : Waiter). w.session) (first (receivers c h x.object))) (holds h sid.0 desc.0)
receiver_there c h t sid desc core free =
    let number = some_number (holds h sid.0 desc.0) (not_bad_held c h sid.0 Mq desc.0 free.held) in
    let here = call_here c h t sid.0 desc.0 number.0 core.agrees free number.1 in
    let o = here.x.object in
    subst (λ (v : Option Held). option_map (λ (x : Sid). x.0) (option_and_then (λ (q : Tickets). first q.receivers) (option_and_then (queue_meant c h) (option_map (λ (x : Held). x.object) v))) ≡ option_and_then (λ (x : Held). option_map (λ (w : Waiter). w.session) (first (receivers c h x.object))) v) (sym here.held)
    (ap (λ (y : Option Attributes). option_map (λ (x : Sid). x.0) (option_and_then (λ (q : Tickets). first q.receivers) (option_map (tickets_of (registered c h o) (queue c h o)) y))) here.made ∙ first_receiver (receivers c h o))

sender_there : (c : Config) (h : History) (t : TablesView) (sid : Sid) (desc : Desc) → IsCore c h t → IsFree c h sid.0 Mq desc.0 → option_map (λ (x : Sid). x.0) (option_and_then (λ (q : Tickets). option_map (λ (m : ParkedSend). m.session) (first q.senders)) (queue_held c h sid.0 desc.0)) ≡ option_and_then (λ (x : Held). option_map (λ (m : Send). m.session) (first (senders c h x.object))) (holds h sid.0 desc.0)
sender_there c h t sid desc core free =
    let number = some_number (holds h sid.0 desc.0) (not_bad_held c h sid.0 Mq desc.0 free.held) in
    let here = call_here c h t sid.0 desc.0 number.0 core.agrees free number.1 in
    let o = here.x.object in
    subst (λ (v : Option Held). option_map (λ (x : Sid). x.0) (option_and_then (λ (q : Tickets). option_map (λ (m : ParkedSend). m.session) (first q.senders)) (option_and_then (queue_meant c h) (option_map (λ (x : Held). x.object) v))) ≡ option_and_then (λ (x : Held). option_map (λ (m : Send). m.session) (first (senders c h x.object))) v) (sym here.held)
    (ap (λ (y : Option Attributes). option_map (λ (x : Sid). x.0) (option_and_then (λ (q : Tickets). option_map (λ (m : ParkedSend). m.session) (first q.senders)) (option_map (tickets_of (registered c h o) (queue c h o)) y))) here.made ∙ first_sender (senders c h o))

waiter_there : (c : Config) (h : History) (t : TablesView) (sid : Sid) (desc : Desc) → IsCore c h t → IsFree c h sid.0 Sem desc.0 → option_map (λ (x : Sid). x.0) (option_and_then (λ (q : Counter). first q.waiters) (semaphore_held c h sid.0 desc.0)) ≡ option_and_then (λ (x : Held). option_map (λ (w : Waiter). w.session) (first (waiters c h x.object))) (holds h sid.0 desc.0)
waiter_there c h t sid desc core free =
    let number = some_number (holds h sid.0 desc.0) (not_bad_held c h sid.0 Sem desc.0 free.held) in
    let here = semaphore_here c h t sid.0 desc.0 number.0 core.agrees free number.1 in
    let o = here.x.object in
    subst (λ (v : Option Held). option_map (λ (x : Sid). x.0) (option_and_then (λ (q : Counter). first q.waiters) (option_and_then (semaphore_meant c h) (option_map (λ (x : Held). x.object) v))) ≡ option_and_then (λ (x : Held). option_map (λ (w : Waiter). w.session) (first (waiters c h x.object))) v) (sym here.held)
    (ap (λ (y : Option ℕ). option_map (λ (x : Sid). x.0) (option_and_then (λ (q : Counter). first q.waiters) (option_map (λ first_value. counter_of (semaphore c h o)) y))) here.made ∙ first_receiver (waiters c h o))

-- what the event is answered with
abbrev pub Ends : Config → History → Event → Option Sid → Type 0
Ends c h e w = verdict c h e ≡ None → option_map (λ (x : Sid). x.0) w ≡ ended_call c h (plain e)

pub ends_send : (c : Config) (h : History) (t : TablesView) (e : Event) (sid : Sid) (desc : Desc) (priority : ℕ) (bytes : List ℕ) (w : Option Sid) → IsCore c h t → e ≡ Do sid (MqSend desc priority bytes) → w ≡ option_and_then (λ (q : Tickets). first q.receivers) (by_description (queue_held c h) e) → Ends c h e w
ends_send c h t e sid desc priority bytes w core is made = subst (λ (x : Event). w ≡ option_and_then (λ (q : Tickets). first q.receivers) (by_description (queue_held c h) x) → Ends c h x w) (sym is) (λ told accepted. ap (option_map (λ (x : Sid). x.0)) told ∙ receiver_there c h t sid desc core (call_free c h sid (MqSend desc priority bytes) Mq desc refl refl accepted)) made

pub ends_timed_send : (c : Config) (h : History) (t : TablesView) (e : Event) (sid : Sid) (desc : Desc) (priority until : ℕ) (bytes : List ℕ) (w : Option Sid) → IsCore c h t → e ≡ Do sid (MqTimedSend desc priority until bytes) → w ≡ option_and_then (λ (q : Tickets). first q.receivers) (by_description (queue_held c h) e) → Ends c h e w
ends_timed_send c h t e sid desc priority until bytes w core is made = subst (λ (x : Event). w ≡ option_and_then (λ (q : Tickets). first q.receivers) (by_description (queue_held c h) x) → Ends c h x w) (sym is) (λ told accepted. ap (option_map (λ (x : Sid). x.0)) told ∙ receiver_there c h t sid desc core (call_free c h sid (MqTimedSend desc priority until bytes) Mq desc refl refl accepted)) made

pub ends_receive : (c : Config) (h : History) (t : TablesView) (e : Event) (sid : Sid) (desc : Desc) (room : ℕ) (w : Option Sid) → IsCore c h t → e ≡ Do sid (MqReceive desc room) → w ≡ option_and_then (λ (q : Tickets). option_map (λ (m : ParkedSend). m.session) (first q.senders)) (by_description (queue_held c h) e) → Ends c h e w
ends_receive c h t e sid desc room w core is made = subst (λ (x : Event). w ≡ option_and_then (λ (q : Tickets). option_map (λ (m : ParkedSend). m.session) (first q.senders)) (by_description (queue_held c h) x) → Ends c h x w) (sym is) (λ told accepted. ap (option_map (λ (x : Sid). x.0)) told ∙ sender_there c h t sid desc core (call_free c h sid (MqReceive desc room) Mq desc refl refl accepted)) made

pub ends_timed_receive : (c : Config) (h : History) (t : TablesView) (e : Event) (sid : Sid) (desc : Desc) (room until : ℕ) (w : Option Sid) → IsCore c h t → e ≡ Do sid (MqTimedReceive desc room until) → w ≡ option_and_then (λ (q : Tickets). option_map (λ (m : ParkedSend). m.session) (first q.senders)) (by_description (queue_held c h) e) → Ends c h e w
ends_timed_receive c h t e sid desc room until w core is made = subst (λ (x : Event). w ≡ option_and_then (λ (q : Tickets). option_map (λ (m : ParkedSend). m.session) (first q.senders)) (by_description (queue_held c h) x) → Ends c h x w) (sym is) (λ told accepted. ap (option_map (λ (x : Sid). x.0)) told ∙ sender_there c h t sid desc core (call_free c h sid (MqTimedReceive desc room until) Mq desc refl refl accepted)) made

pub ends_post : (c : Config) (h : History) (t : TablesView) (e : Event) (sid : Sid) (desc : Desc) (w : Option Sid) → IsCore c h t → e ≡ Do sid (SemPost desc) → w ≡ option_and_then (λ (q : Counter). first q.waiters) (by_description (semaphore_held c h) e) → Ends c h e w
ends_post c h t e sid desc w core is made = subst (λ (x : Event). w ≡ option_and_then (λ (q : Counter). first q.waiters) (by_description (semaphore_held c h) x) → Ends c h x w) (sym is) (λ told accepted. ap (option_map (λ (x : Sid). x.0)) told ∙ waiter_there c h t sid desc core (call_free c h sid (SemPost desc) Sem desc refl refl accepted)) made

-- the clock finds who is due
numbered_session : (w : Option Timed) → option_map (λ (x : Sid). x.0) (option_map (λ (t : Timed). t.session) w) ≡ option_map session_of w
numbered_session None = refl
numbered_session (Some t) = refl

pub due_found : (c : Config) (h : History) (k : Clock) (moment : ℕ) (w : Option Sid) → Legal c h → IsOnTime c h k → w ≡ option_map (λ (t : Timed). t.session) (find (is_over (max moment k.time)) k.calls) → option_map (λ (x : Sid). x.0) w ≡ due c h moment
due_found c h k moment w legal on made =
    ap (option_map (λ (x : Sid). x.0)) (made ∙ ap (λ (n : ℕ). option_map (λ (t : Timed). t.session) (find (is_over (max moment n)) k.calls)) on.time)
    ∙ numbered_session (find (is_over (max moment (now h))) k.calls)
    ∙ first_is_due place_of session_of deadline_told c h k.calls moment legal on.calls

pub ends_tick : (c : Config) (h : History) (k : Clock) (e : Event) (moment : ℕ) (w : Option Sid) → Legal c h → IsOnTime c h k → e ≡ Tick moment → w ≡ option_map (λ (t : Timed). t.session) (find (is_over (max moment k.time)) k.calls) → Ends c h e w
ends_tick c h k e moment w legal on is made = subst (λ (x : Event). Ends c h x w) (sym is) (λ accepted. due_found c h k moment w legal on made)
