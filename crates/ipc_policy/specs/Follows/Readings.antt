-- Parked calls and contents, read place by place: which record parks a call and which ends it, at which record a
-- message enters and at which it is taken. What the lists of a queue and a semaphore's are is stated here without
-- `queue_after` and `semaphore_after`.
use Rattle.std.specs.Prelude.{◌≡◌, Bool, false, ℕ, ◌+◌, ◌<◌, ◌≤◌, ◌&&◌, ◌==◌, not, find, List, [], ◌∷◌, ◌++◌, length, Option, Some, None, is_some, unwrap_or, if◌then◌else◌, MatchOption}
use Rattle.ipc_terms.specs.Lists.{first, Each}
use Rattle.ipc_terms.specs.declared.record.Event.{Event}
use Rattle.ipc_policy.specs.declared.config.Config.{Config}
use Rattle.ipc_policy.specs.Decides.History.{History, newest, unless, unended}
use Rattle.ipc_policy.specs.Decides.Queues.{Send, Waiter, Act, Sends, Receives, Withdraws, Queue, is_filled, has_none, next, maxmsg}
use Rattle.ipc_policy.specs.Decides.Semaphores.{SemaphoreAct, Posts, Waits, WithdrawsWait, Semaphore}
use Rattle.ipc_policy.specs.Decides.Bodies.{act, queue, contents, senders, receivers, semaphore_act, semaphore, waiters}
use Rattle.ipc_policy.specs.Decides.Parking.{stands_at}

-- the send of place i to a full queue parks
abbrev pub parks_send : ℕ → ℕ → Act → Queue → Option Send
parks_send maxmsg i (Sends m) q = if is_filled maxmsg q.contents && (m.place == i) then Some m else None
parks_send maxmsg i _ q = None

-- an interrupt or a hang-up of its session, or a tick that finds it due, ends a parked send, and so does a receive, if it is the longest parked
abbrev pub ends_send : Send → Act → Queue → Bool
ends_send m (Withdraws s) q = m.session == s
ends_send m (Receives w) q = stands_at (λ n. n.place) m.place (first q.senders)
ends_send m _ q = false

-- the receive of place i from an empty queue parks
abbrev pub parks_receive : ℕ → Act → Queue → Option Waiter
parks_receive i (Receives w) q = if has_none q.contents && (w.place == i) then Some w else None
parks_receive i _ q = None

-- an interrupt or a hang-up of its session, or a tick that finds it due, ends a parked receive, and so does a send, if it is the longest parked
abbrev pub ends_receive : Waiter → Act → Queue → Bool
ends_receive w (Withdraws s) q = w.session == s
ends_receive w (Sends m) q = stands_at (λ n. n.place) w.place (first q.receivers)
ends_receive w _ q = false

-- the wait of place i at 0 parks
abbrev pub parks_wait : ℕ → SemaphoreAct → Semaphore → Option Waiter
parks_wait i (Waits w) q = if (q.running == 0) && (w.place == i) then Some w else None
parks_wait i _ q = None

-- an interrupt or a hang-up of its session, or a tick that finds it due, ends a parked wait, and so does a post, if it is the longest parked
abbrev pub ends_wait : Waiter → SemaphoreAct → Semaphore → Bool
ends_wait w (WithdrawsWait s) q = w.session == s
ends_wait w Posts q = stands_at (λ n. n.place) w.place (first q.waiters)
ends_wait w _ q = false

-- the send, if it was made at place i
abbrev pub entering : ℕ → Option Send → Option Send
entering i None = None
entering i (Some m) = if m.place == i then Some m else None

-- the send of place i enters at its own place if it does not park, else at the receive that serves it
abbrev pub enters : ℕ → ℕ → Act → Queue → Option Send
enters maxmsg i (Sends m) q = if not (is_filled maxmsg q.contents) && (m.place == i) then Some m else None
enters maxmsg i (Receives w) q = entering i (first q.senders)
enters maxmsg i _ q = None

-- a receive that does not park takes the next message; one that is parked takes the message of the send that serves it
abbrev pub takes : Send → Act → Queue → Bool
takes m (Sends n) q = not (has_none q.receivers) && (n.place == m.place)
takes m (Receives w) q = stands_at (λ n. n.place) m.place (next q.contents)
takes m _ q = false

-- the send of place i, if it enters and is not taken at the same record
abbrev pub stays : ℕ → ℕ → Act → Queue → Option Send
stays maxmsg i a q = unless (λ m. takes m a q) (enters maxmsg i a q)

-- what a list has of place i
abbrev pub of_place : {A : Type 0} → (A → ℕ) → ℕ → List A → Option A
of_place place i xs = find (λ x. place x == i) xs

-- the places rise from one item to the next: none is below lo, and each is below hi
abbrev pub Rising : {A : Type 0} → (A → ℕ) → ℕ → List A → ℕ → Type 0
Rising place lo [] hi = lo ≤ hi
Rising place lo (x ∷ xs) hi = (lo ≤ place x) × Rising place (place x + 1) xs hi

-- an event parks the send of place i on queue o, the receive of place i, or the wait of place i on semaphore o
abbrev pub parks_send_at : Config → ℕ → ℕ → Event → History → Option Send
parks_send_at c o i e before = parks_send (maxmsg c before o) i (act c o e before) (queue c before o)

abbrev pub parks_receive_at : Config → ℕ → ℕ → Event → History → Option Waiter
parks_receive_at c o i e before = parks_receive i (act c o e before) (queue c before o)

abbrev pub parks_wait_at : Config → ℕ → ℕ → Event → History → Option Waiter
parks_wait_at c o i e before = parks_wait i (semaphore_act c o e before) (semaphore c before o)

-- an event ends a send that is parked on queue o, a receive, or a wait that is parked on semaphore o
abbrev pub ends_send_at : Config → ℕ → Send → Event → History → Bool
ends_send_at c o m e before = ends_send m (act c o e before) (queue c before o)

abbrev pub ends_receive_at : Config → ℕ → Waiter → Event → History → Bool
ends_receive_at c o w e before = ends_receive w (act c o e before) (queue c before o)

abbrev pub ends_wait_at : Config → ℕ → Waiter → Event → History → Bool
ends_wait_at c o w e before = ends_wait w (semaphore_act c o e before) (semaphore c before o)

-- the call of place i that parked on object o and that no later record ended: a send, a receive, or a wait
abbrev pub parked_send : Config → History → ℕ → ℕ → Option Send
parked_send c h o i = unended (parks_send_at c o i) (ends_send_at c o) h

abbrev pub parked_receive : Config → History → ℕ → ℕ → Option Waiter
parked_receive c h o i = unended (parks_receive_at c o i) (ends_receive_at c o) h

abbrev pub parked_wait : Config → History → ℕ → ℕ → Option Waiter
parked_wait c h o i = unended (parks_wait_at c o i) (ends_wait_at c o) h

-- what a list has of a place is the call of that place that parked and that no later record ended, and each list begins
-- with the longest parked
pub record ParkedByPlace (c : Config) (h : History) (o : ℕ) : Type 0 where
  pub sends : (i : ℕ) → of_place (λ m. m.place) i (senders c h o) ≡ parked_send c h o i
  pub receives : (i : ℕ) → of_place (λ w. w.place) i (receivers c h o) ≡ parked_receive c h o i
  pub waits : (i : ℕ) → of_place (λ w. w.place) i (waiters c h o) ≡ parked_wait c h o i
  pub sends_rise : Rising (λ m. m.place) 0 (senders c h o) (length h)
  pub receives_rise : Rising (λ w. w.place) 0 (receivers c h o) (length h)
  pub waits_rise : Rising (λ w. w.place) 0 (waiters c h o) (length h)

-- so in every history, for every object
abbrev pub EachParkedByPlace : Type 0
EachParkedByPlace = (c : Config) (h : History) (o : ℕ) → ParkedByPlace c h o

-- by an event the send of place i enters queue o; it enters and is not taken at the same record; and a message is taken
abbrev pub enters_at : Config → ℕ → ℕ → Event → History → Option Send
enters_at c o i e before = enters (maxmsg c before o) i (act c o e before) (queue c before o)

abbrev pub stays_at : Config → ℕ → ℕ → Event → History → Option Send
stays_at c o i e before = stays (maxmsg c before o) i (act c o e before) (queue c before o)

abbrev pub takes_at : Config → ℕ → Send → Event → History → Bool
takes_at c o m e before = takes m (act c o e before) (queue c before o)

-- the send of place i that entered queue o and that no record took
abbrev pub inside : Config → History → ℕ → ℕ → Option Send
inside c h o i = unended (stays_at c o i) (takes_at c o) h

-- the contents are exactly the sends that entered and that no record took
abbrev pub EachInsideByPlace : Type 0
EachInsideByPlace = (c : Config) (h : History) (o i : ℕ) → of_place (λ m. m.place) i (contents c h o) ≡ inside c h o i

-- an event by which the send of place i enters queue o says its own place
abbrev pub says_entry : Config → ℕ → ℕ → Event → History → Option ℕ
says_entry c o i e before = if is_some (enters_at c o i e before) then Some (length before) else None

-- the place of the record at which the send of place i entered
abbrev pub entered : Config → History → ℕ → ℕ → ℕ
entered c h o i = unwrap_or (newest (says_entry c o i) h) 0

-- the contents stand in the order in which they entered, and no two entered at one record
abbrev pub EachInsideInOrder : Type 0
EachInsideInOrder = (c : Config) (h : History) (o : ℕ) → Rising (λ m. entered c h o m.place) 0 (contents c h o) (length h)

-- it is in the list; each that entered before it has a smaller priority, and each that entered after it no greater one
pub record IsNext (xs : List Send) (n : Send) : Type 0 where
  pub front : List Send
  pub rest : List Send
  pub whole : xs ≡ front ++ n ∷ rest
  pub earlier : Each (λ m. m.priority < n.priority) front
  pub later : Each (λ m. m.priority ≤ n.priority) rest

-- what a receive takes is the earliest of those with the greatest priority; nothing, only where there is none
abbrev pub EachNextIsGreatest : Type 0
EachNextIsGreatest = (xs : List Send) → MatchOption (next xs) (xs ≡ []) (λ n. IsNext xs n)
