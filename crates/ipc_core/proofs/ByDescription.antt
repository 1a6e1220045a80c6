-- What is read of the queue or the semaphore that a caller has by the description which its event names.
use Rattle.std.proofs.Common.{◌≡◌, ℕ, true, false, cond, List, [], ◌∷◌, length, Option, Some, None, refl}
use Rattle.std.specs.Prelude.{option_and_then, IsSome}
use Rattle.std.specs.Option.{option_map}
use Rattle.ipc_terms.specs.Lists.{first}
use Rattle.ipc_terms.specs.Events.{caller}
use Rattle.ipc_terms.specs.declared.ids.Sid.{Sid}
use Rattle.ipc_terms.specs.declared.call.Answer.{Answer}
use Rattle.ipc_terms.specs.declared.call.Answer.TheVariants.{Sent, Received}
use Rattle.ipc_terms.specs.declared.record.Event.{Event}
use Rattle.ipc_queue.specs.declared.queue.ParkedSend.{ParkedSend}
use Rattle.ipc_queue.specs.Tickets.{Tickets, next_ticket}
use Rattle.ipc_sem.specs.Counters.{Counter}
use Rattle.ipc_policy.specs.declared.asking.Described.{Described}
use Rattle.ipc_policy.specs.declared.config.Config.{Config}
use Rattle.ipc_policy.specs.Decides.History.{History, is_some_and}
use Rattle.ipc_policy.specs.Decides.Descriptions.{holds}
use Rattle.ipc_policy.specs.Decides.Queues.{Send, next}
use Rattle.ipc_policy.specs.Decides.Bodies.{is_full, is_empty}
use Rattle.ipc_policy.specs.Decides.Registrations.{registered}
use Rattle.ipc_policy.specs.Decides.Rules.{attributes_held}
use Rattle.ipc_policy.specs.Decides.Verdict.{Legal, answers_of, noticed, send_answers}
use Rattle.ipc_state.specs.Agrees.{receiver_of}
use Rattle.ipc_state.specs.StateView.{brought, queue_by, semaphore_by, value_by}
use Rattle.ipc_state.specs.Meetings.{description, by_description, queue_held, semaphore_held}
use Rattle.ipc_state.proofs.HeldQueues.{held_length, held_receiver, held_waiter, held_value, held_sender, carried, held_message}
use Rattle.ipc_core.proofs.Noticing.{full_told, served_told, noticed_told}

pub length_by : (c : Config) (h : History) (e : Event) → option_map (λ (q : Tickets). length q.tickets) (by_description (queue_held c h) e) ≡ option_map (λ q. length q.contents) (by_description (queue_by c h) e)
length_by c h e = at (description e) where
  at : (w : Option Described) → option_map (λ (q : Tickets). length q.tickets) (option_and_then (λ (x : Described). queue_held c h (caller e).0 x.desc.0) w) ≡ option_map (λ q. length q.contents) (option_and_then (λ (x : Described). queue_by c h (caller e).0 x.desc.0) w)
  at None = refl
  at (Some x) = held_length c h (caller e).0 x.desc.0

pub receiver_by : (c : Config) (h : History) (e : Event) → option_and_then (λ (q : Tickets). first q.receivers) (by_description (queue_held c h) e) ≡ option_and_then (λ q. option_map receiver_of (first q.receivers)) (by_description (queue_by c h) e)
receiver_by c h e = at (description e) where
  at : (w : Option Described) → option_and_then (λ (q : Tickets). first q.receivers) (option_and_then (λ (x : Described). queue_held c h (caller e).0 x.desc.0) w) ≡ option_and_then (λ q. option_map receiver_of (first q.receivers)) (option_and_then (λ (x : Described). queue_by c h (caller e).0 x.desc.0) w)
  at None = refl
  at (Some x) = held_receiver c h (caller e).0 x.desc.0

pub sender_by : (c : Config) (h : History) (e : Event) → option_and_then (λ (q : Tickets). option_map (λ (m : ParkedSend). m.session) (first q.senders)) (by_description (queue_held c h) e) ≡ option_and_then (λ q. option_map (λ (m : Send). record { 0 = m.session }) (first q.senders)) (by_description (queue_by c h) e)
sender_by c h e = at (description e) where
  at : (w : Option Described) → option_and_then (λ (q : Tickets). option_map (λ (m : ParkedSend). m.session) (first q.senders)) (option_and_then (λ (x : Described). queue_held c h (caller e).0 x.desc.0) w) ≡ option_and_then (λ q. option_map (λ (m : Send). record { 0 = m.session }) (first q.senders)) (option_and_then (λ (x : Described). queue_by c h (caller e).0 x.desc.0) w)
  at None = refl
  at (Some x) = held_sender c h (caller e).0 x.desc.0

pub waiter_by : (c : Config) (h : History) (e : Event) → option_and_then (λ (q : Counter). first q.waiters) (by_description (semaphore_held c h) e) ≡ option_and_then (λ q. option_map receiver_of (first q.waiters)) (by_description (semaphore_by c h) e)
waiter_by c h e = at (description e) where
  at : (w : Option Described) → option_and_then (λ (q : Counter). first q.waiters) (option_and_then (λ (x : Described). semaphore_held c h (caller e).0 x.desc.0) w) ≡ option_and_then (λ q. option_map receiver_of (first q.waiters)) (option_and_then (λ (x : Described). semaphore_by c h (caller e).0 x.desc.0) w)
  at None = refl
  at (Some x) = held_waiter c h (caller e).0 x.desc.0

pub message_by : (c : Config) (h : History) (e : Event) → option_and_then (λ (q : Tickets). option_map carried (next_ticket q.tickets)) (by_description (queue_held c h) e) ≡ option_and_then (λ q. option_map brought (next q.contents)) (by_description (queue_by c h) e)
message_by c h e = at (description e) where
  at : (w : Option Described) → option_and_then (λ (q : Tickets). option_map carried (next_ticket q.tickets)) (option_and_then (λ (x : Described). queue_held c h (caller e).0 x.desc.0) w) ≡ option_and_then (λ q. option_map brought (next q.contents)) (option_and_then (λ (x : Described). queue_by c h (caller e).0 x.desc.0) w)
  at None = refl
  at (Some x) = held_message c h (caller e).0 x.desc.0

pub counted_by : (c : Config) (h : History) (e : Event) → Legal c h → option_map (λ (q : Counter). q.value) (by_description (semaphore_held c h) e) ≡ by_description (value_by c h) e
counted_by c h e legal = at (description e) where
  at : (w : Option Described) → option_map (λ (q : Counter). q.value) (option_and_then (λ (x : Described). semaphore_held c h (caller e).0 x.desc.0) w) ≡ option_and_then (λ (x : Described). value_by c h (caller e).0 x.desc.0) w
  at None = refl
  at (Some x) = held_value c h (caller e).0 x.desc.0 legal

-- what a send is told
pub full_by : (c : Config) (h : History) (e : Event) (priority : ℕ) (bytes : List ℕ) → is_some_and (λ x. is_full c h x.object) (by_description (holds h) e) ≡ true → answers_of (by_description (holds h) e) (send_answers c h (caller e) priority bytes) ≡ []
full_by c h e priority bytes full = at (description e) full where
  at : (w : Option Described) → is_some_and (λ x. is_full c h x.object) (option_and_then (λ (x : Described). holds h (caller e).0 x.desc.0) w) ≡ true → answers_of (option_and_then (λ (x : Described). holds h (caller e).0 x.desc.0) w) (send_answers c h (caller e) priority bytes) ≡ []
  at None k = absurd cc
  at (Some x) k = full_told c h (caller e) x.desc.0 priority bytes k

pub served_by : (c : Config) (h : History) (e : Event) (priority : ℕ) (bytes : List ℕ) (r : Sid) → IsSome (by_description (attributes_held c h) e) → is_some_and (λ x. is_full c h x.object) (by_description (holds h) e) ≡ false → option_and_then (λ q. option_map (λ w. record { 0 = w.session }) (first q.receivers)) (by_description (queue_by c h) e) ≡ Some r → (caller e, Sent) ∷ (r, Received priority bytes) ∷ [] ≡ answers_of (by_description (holds h) e) (send_answers c h (caller e) priority bytes)
served_by c h e priority bytes r some full k = at (description e) some full k where
  at : (w : Option Described) → IsSome (option_and_then (λ (x : Described). attributes_held c h (caller e).0 x.desc.0) w) → is_some_and (λ x. is_full c h x.object) (option_and_then (λ (x : Described). holds h (caller e).0 x.desc.0) w) ≡ false → option_and_then (λ q. option_map (λ w. record { 0 = w.session }) (first q.receivers)) (option_and_then (λ (x : Described). queue_by c h (caller e).0 x.desc.0) w) ≡ Some r → (caller e, Sent) ∷ (r, Received priority bytes) ∷ [] ≡ answers_of (option_and_then (λ (x : Described). holds h (caller e).0 x.desc.0) w) (send_answers c h (caller e) priority bytes)
  at None s f k = absurd cc
  at (Some x) s f k = served_told c h (caller e) x.desc.0 priority bytes r s f k

pub noticed_by : (c : Config) (h : History) (e : Event) (priority : ℕ) (bytes : List ℕ) (told : List (Sid × Answer)) → IsSome (by_description (attributes_held c h) e) → is_some_and (λ x. is_full c h x.object) (by_description (holds h) e) ≡ false → ◌≡◌ {A = Option Sid} (option_and_then (λ q. option_map (λ w. record { 0 = w.session }) (first q.receivers)) (by_description (queue_by c h) e)) None → told ≡ noticed (cond (is_some_and (λ x. is_empty c h x.object) (by_description (holds h) e)) (option_and_then (λ x. registered c h x.object) (by_description (holds h) e)) None) → (caller e, Sent) ∷ told ≡ answers_of (by_description (holds h) e) (send_answers c h (caller e) priority bytes)
noticed_by c h e priority bytes told some full k is = at (description e) some full k is where
  at : (w : Option Described) → IsSome (option_and_then (λ (x : Described). attributes_held c h (caller e).0 x.desc.0) w) → is_some_and (λ x. is_full c h x.object) (option_and_then (λ (x : Described). holds h (caller e).0 x.desc.0) w) ≡ false → ◌≡◌ {A = Option Sid} (option_and_then (λ q. option_map (λ w. record { 0 = w.session }) (first q.receivers)) (option_and_then (λ (x : Described). queue_by c h (caller e).0 x.desc.0) w)) None → told ≡ noticed (cond (is_some_and (λ x. is_empty c h x.object) (option_and_then (λ (x : Described). holds h (caller e).0 x.desc.0) w)) (option_and_then (λ x. registered c h x.object) (option_and_then (λ (x : Described). holds h (caller e).0 x.desc.0) w)) None) → (caller e, Sent) ∷ told ≡ answers_of (option_and_then (λ (x : Described). holds h (caller e).0 x.desc.0) w) (send_answers c h (caller e) priority bytes)
  at None s f k i = absurd cc
  at (Some x) s f k i = noticed_told c h (caller e) x.desc.0 priority bytes told s f k i
