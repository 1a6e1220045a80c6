-- Which call a session is parked in: a send to a full queue, a receive from an empty one, or a wait for a semaphore at
-- 0, until another session's call serves it, its session interrupts it or hangs up, or a tick finds it due.
use Rattle.std.specs.Prelude.{Bool, true, false, ℕ, ◌&&◌, ◌||◌, ◌==◌, length, Option, Some, None, if◌then◌else◌, option_and_then}
use Rattle.ipc_terms.specs.Lists.{first}
use Rattle.ipc_terms.specs.Timed.{plain}
use Rattle.ipc_terms.specs.declared.call.Call.TheVariants.{MqSend, MqReceive, SemWait}
use Rattle.ipc_terms.specs.declared.record.Event.{Event}
use Rattle.ipc_terms.specs.declared.record.Event.TheVariants.{Do}
use Rattle.ipc_policy.specs.declared.config.Config.{Config}
use Rattle.ipc_policy.specs.declared.config.Held.{Held}
use Rattle.ipc_policy.specs.Decides.History.{History, unended, is_some_and}
use Rattle.ipc_policy.specs.Decides.Descriptions.{holds}
use Rattle.ipc_policy.specs.Decides.Semaphores.{SemaphoreAct, Posts, Semaphore}
use Rattle.ipc_policy.specs.Decides.Queues.{Act, Sends, Receives, Withdraws, Queue}
use Rattle.ipc_policy.specs.Decides.Bodies.{due, semaphore_act, semaphore, is_zero, act, queue, is_full, is_empty}

-- what a parked call waits for: a send for room in a full queue, a receive for a message in an empty one, a wait for a
-- post
pub data ParkedKind : Type 0 where
  Sending : ParkedKind
  Receiving : ParkedKind
  Waiting : ParkedKind

-- the call that a session is parked in: on which object, at which place of the history, and of which kind
pub record Parked : Type 0 where
  pub object : ℕ
  pub place : ℕ
  pub kind : ParkedKind

-- the call that is parked on what a description gives, where the test says so of the object
abbrev pub parked_on : (ℕ → Bool) → ParkedKind → ℕ → Held → Option Parked
parked_on test kind place x = if test x.object then Some (record { object = x.object; place = place; kind = kind }) else None

-- what an event reads: its place; what each session holds, and which session is due at which moment; what each queue and
-- each semaphore keeps; and which objects are full, which empty, and which at 0
pub record Seen : Type 0 where
  pub place : ℕ
  pub holds : ℕ → ℕ → Option Held
  pub due : ℕ → Option ℕ
  pub queue : ℕ → Queue
  pub semaphore : ℕ → Semaphore
  pub full : ℕ → Bool
  pub empty : ℕ → Bool
  pub at_zero : ℕ → Bool

-- what an event after a history reads
abbrev pub seen : Config → History → Seen
seen c before = record { place = length before; holds = holds before; due = due c before; queue = queue c before; semaphore = semaphore c before; full = is_full c before; empty = is_empty c before; at_zero = is_zero c before }

-- a send to a full queue parks, a receive from an empty one, and a wait at 0
abbrev pub plain_parks : Seen → ℕ → Event → Option Parked
plain_parks there s (Do sid (MqSend desc priority bytes)) =
    if sid.0 == s then option_and_then (parked_on there.full Sending there.place) (there.holds sid.0 desc.0) else None
plain_parks there s (Do sid (MqReceive desc length')) =
    if sid.0 == s then option_and_then (parked_on there.empty Receiving there.place) (there.holds sid.0 desc.0) else None
plain_parks there s (Do sid (SemWait desc)) =
    if sid.0 == s then option_and_then (parked_on there.at_zero Waiting there.place) (there.holds sid.0 desc.0) else None
plain_parks there s _ = None

-- a timed call parks where it does without its deadline
abbrev pub parks_by : Seen → ℕ → Event → Option Parked
parks_by there s e = plain_parks there s (plain e)

-- the call of session s that parks
abbrev pub parks : Config → ℕ → Event → History → Option Parked
parks c s e before = parks_by (seen c before) s e

-- there is one, and this is its place
abbrev pub stands_at : {A : Type 0} → (A → ℕ) → ℕ → Option A → Bool
stands_at place i x = is_some_and (λ y. place y == i) x

-- the call of this place is the longest parked of its kind on the queue
abbrev pub is_longest : ParkedKind → ℕ → Queue → Bool
is_longest Sending i q = stands_at (λ m. m.place) i (first q.senders)
is_longest Receiving i q = stands_at (λ w. w.place) i (first q.receivers)
is_longest Waiting i q = false

-- a receive serves sends, and a send serves receives
abbrev pub serves : ParkedKind → Act → Bool
serves Sending (Receives w) = true
serves Receiving (Sends m) = true
serves _ _ = false

-- the act withdraws the parked call of session s
abbrev pub withdraws : ℕ → Act → Bool
withdraws s (Withdraws s') = s == s'
withdraws s _ = false

-- an interrupt or a hang-up of its session ends a parked call, a tick that of the session that is due, and what serves its
-- kind ends the longest parked
abbrev pub ends_call : ℕ → Parked → Act → Queue → Bool
ends_call s p a q = withdraws s a || (serves p.kind a && is_longest p.kind p.place q)

-- a post ends the longest parked wait
abbrev pub is_posted : SemaphoreAct → ParkedKind → ℕ → Semaphore → Bool
is_posted Posts Waiting i q = stands_at (λ w. w.place) i (first q.waiters)
is_posted _ _ _ _ = false

-- what ends the parked call of session s
abbrev pub ends_parked : Config → ℕ → Parked → Event → History → Bool
ends_parked c s p e before =
    is_posted (semaphore_act c p.object e before) p.kind p.place (semaphore c before p.object)
    || ends_call s p (act c p.object e before) (queue c before p.object)

-- the call that session s is parked in
unfoldable pub parked : Config → History → ℕ → Option Parked
parked c h s = unended (parks c s) (ends_parked c s) h
