-- What is read of the queue or the semaphore that a session has by a description, in tables that agree with a history.
use Rattle.std.proofs.Common.{◌≡◌, ℕ, List, [], ◌∷◌, length, map, Option, Some, None, refl, sym, ap, ◌∙◌}
use Rattle.std.specs.Prelude.{option_and_then}
use Rattle.std.specs.Option.{option_map}
use Rattle.std.proofs.lemmas.List.{length-map}
use Rattle.ipc_terms.specs.Lists.{first}
use Rattle.ipc_terms.specs.History.{Message}
use Rattle.ipc_terms.specs.declared.ids.Sid.{Sid}
use Rattle.ipc_queue.specs.Tickets.{Tickets, next_ticket}
use Rattle.ipc_queue.specs.declared.queue.Ticket.{Ticket}
use Rattle.ipc_queue.specs.declared.queue.ParkedSend.{ParkedSend}
use Rattle.ipc_policy.specs.declared.config.Config.{Config}
use Rattle.ipc_policy.specs.declared.config.Held.{Held}
use Rattle.ipc_policy.specs.Decides.History.{History}
use Rattle.ipc_policy.specs.Decides.Objects.{object}
use Rattle.ipc_policy.specs.Decides.Descriptions.{holds}
use Rattle.ipc_policy.specs.Decides.Queues.{Send, Queue, next}
use Rattle.ipc_policy.specs.Decides.Verdict.{Legal}
use Rattle.ipc_policy.proofs.Semaphores.ValueCounts.{value_counted}
use Rattle.ipc_terms.specs.Objects.{as_semaphore}
use Rattle.ipc_terms.specs.declared.call.Attributes.{Attributes}
use Rattle.ipc_policy.specs.Decides.Queues.{attributes}
use Rattle.ipc_policy.specs.Decides.Semaphores.{Semaphore}
use Rattle.ipc_policy.specs.Decides.Bodies.{queue, semaphore, value}
use Rattle.ipc_sem.specs.Counters.{Counter}
use Rattle.ipc_state.specs.StateView.{brought, queue_by, semaphore_by, value_by}
use Rattle.ipc_policy.specs.declared.config.Registration.{Registration}
use Rattle.ipc_policy.specs.Decides.Registrations.{registered}
use Rattle.ipc_state.specs.Agrees.{ticket_of, tickets_of, sender_of, receiver_of, queue_meant, counter_of, semaphore_meant}
use Rattle.ipc_state.proofs.QueueSteps.{next_same}
use Rattle.ipc_state.proofs.Mapped.{longest_mapped}

-- the queue that the session has by the description, as it is kept
abbrev pub queue_held : Config → History → ℕ → ℕ → Option Tickets
queue_held c h s d = option_and_then (queue_meant c h) (option_map (λ (x : Held). x.object) (holds h s d))

-- and the semaphore
abbrev pub semaphore_held : Config → History → ℕ → ℕ → Option Counter
semaphore_held c h s d = option_and_then (semaphore_meant c h) (option_map (λ (x : Held). x.object) (holds h s d))

-- what is read of what is kept is what is read of the policy's
reads : {K Q Y A : Type 0} (w : Option Held) (given : ℕ → Option Y) (here : ℕ → Q) (kept' : ℕ → Y → K) (f : K → Option A) (g : Q → Option A) → ((o : ℕ) (y : Y) → f (kept' o y) ≡ g (here o)) → option_and_then f (option_and_then (λ o. option_map (kept' o) (given o)) (option_map (λ (x : Held). x.object) w)) ≡ option_and_then g (option_and_then (λ (x : Held). option_map (λ y. here x.object) (given x.object)) w)
reads None given here kept' f g same = refl
reads {K = K} {Q = Q} {Y = Y} {A = A} (Some x) given here kept' f g same = at (given x.object) where
  at : (v : Option Y) → option_and_then f (option_map (kept' x.object) v) ≡ option_and_then g (option_map (λ y. here x.object) v)
  at None = refl
  at (Some y) = same x.object y

pub held_reads : {A : Type 0} (c : Config) (h : History) (s d : ℕ) (f : Tickets → Option A) (g : Queue → Option A) → ((r : Option Registration) (q : Queue) (y : Attributes) → f (tickets_of r q y) ≡ g q) → option_and_then f (queue_held c h s d) ≡ option_and_then g (queue_by c h s d)
held_reads c h s d f g same = reads (holds h s d) (attributes c h) (queue c h) (λ o. tickets_of (registered c h o) (queue c h o)) f g (λ o y. same (registered c h o) (queue c h o) y)

semaphore_reads : {A : Type 0} (c : Config) (h : History) (s d : ℕ) (f : Counter → Option A) (g : Semaphore → Option A) → ((q : Semaphore) → f (counter_of q) ≡ g q) → option_and_then f (semaphore_held c h s d) ≡ option_and_then g (semaphore_by c h s d)
semaphore_reads c h s d f g same = reads (holds h s d) (λ o. as_semaphore (object c h o)) (semaphore c h) (λ o first_value. counter_of (semaphore c h o)) f g (λ o y. same (semaphore c h o))

some_mapped : {A B : Type 0} (f : A → B) (w : Option A) → option_and_then (λ x. Some (f x)) w ≡ option_map f w
some_mapped f None = refl
some_mapped f (Some x) = refl

-- how many messages it has
pub held_length : (c : Config) (h : History) (s d : ℕ) → option_map (λ (q : Tickets). length q.tickets) (queue_held c h s d) ≡ option_map (λ q. length q.contents) (queue_by c h s d)
held_length c h s d =
    sym (some_mapped (λ (q : Tickets). length q.tickets) (queue_held c h s d))
    ∙ held_reads c h s d (λ q. Some (length q.tickets)) (λ q. Some (length q.contents)) (λ r q y. ap Some (length-map q.contents ticket_of))
    ∙ some_mapped (λ (q : Queue). length q.contents) (queue_by c h s d)

-- the longest parked calls
pub held_receiver : (c : Config) (h : History) (s d : ℕ) → option_and_then (λ (q : Tickets). first q.receivers) (queue_held c h s d) ≡ option_and_then (λ q. option_map receiver_of (first q.receivers)) (queue_by c h s d)
held_receiver c h s d = held_reads c h s d (λ q. first q.receivers) (λ q. option_map receiver_of (first q.receivers)) (λ r q y. longest_mapped receiver_of q.receivers)

pub held_waiter : (c : Config) (h : History) (s d : ℕ) → option_and_then (λ (q : Counter). first q.waiters) (semaphore_held c h s d) ≡ option_and_then (λ q. option_map receiver_of (first q.waiters)) (semaphore_by c h s d)
held_waiter c h s d = semaphore_reads c h s d (λ q. first q.waiters) (λ q. option_map receiver_of (first q.waiters)) (λ q. longest_mapped receiver_of q.waiters)

-- the value of the semaphore
value_at : (c : Config) (h : History) → Legal c h → (w : Option Held) → option_map (λ (q : Counter). q.value) (option_and_then (semaphore_meant c h) (option_map (λ (x : Held). x.object) w)) ≡ option_and_then (λ (x : Held). option_map (λ first_value. value c h x.object) (as_semaphore (object c h x.object))) w
value_at c h legal None = refl
value_at c h legal (Some x) = at (as_semaphore (object c h x.object)) where
  at : (v : Option ℕ) → option_map (λ (q : Counter). q.value) (option_map (λ first_value. counter_of (semaphore c h x.object)) v) ≡ option_map (λ first_value. value c h x.object) v
  at None = refl
  at (Some first) = ap Some (sym (value_counted c h x.object legal))

pub held_value : (c : Config) (h : History) (s d : ℕ) → Legal c h → option_map (λ (q : Counter). q.value) (semaphore_held c h s d) ≡ value_by c h s d
held_value c h s d legal = value_at c h legal (holds h s d)

-- whose send it is
abbrev pub session_of : Send → Sid
session_of m = record { 0 = m.session }

first_parked : (ms : List Send) → option_map (λ (m : ParkedSend). m.session) (first (map sender_of ms)) ≡ option_map session_of (first ms)
first_parked [] = refl
first_parked (m ∷ ms) = refl

pub held_sender : (c : Config) (h : History) (s d : ℕ) → option_and_then (λ (q : Tickets). option_map (λ (m : ParkedSend). m.session) (first q.senders)) (queue_held c h s d) ≡ option_and_then (λ q. option_map session_of (first q.senders)) (queue_by c h s d)
held_sender c h s d = held_reads c h s d (λ q. option_map (λ (m : ParkedSend). m.session) (first q.senders)) (λ q. option_map session_of (first q.senders)) (λ r q y. first_parked q.senders)

-- what the next message brings
abbrev pub carried : Ticket → Message
carried t = record { priority = t.priority; bytes = t.bytes }

carried_mapped : (n : Option Send) → option_map carried (option_map ticket_of n) ≡ option_map brought n
carried_mapped None = refl
carried_mapped (Some m) = refl

pub held_message : (c : Config) (h : History) (s d : ℕ) → option_and_then (λ (q : Tickets). option_map carried (next_ticket q.tickets)) (queue_held c h s d) ≡ option_and_then (λ q. option_map brought (next q.contents)) (queue_by c h s d)
held_message c h s d = held_reads c h s d (λ q. option_map carried (next_ticket q.tickets)) (λ q. option_map brought (next q.contents)) (λ r q y. ap (option_map carried) (next_same q.contents) ∙ carried_mapped (next q.contents))
