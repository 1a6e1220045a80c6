-- What posts, waits and withdrawals make of a semaphore.
use Rattle.std.specs.Prelude.{Bool, true, false, ℕ, ◌+◌, ◌-◌, ◌==◌, not, List, [], ◌∷◌, ◌++◌, filter, Option, Some, None, if◌then◌else◌, option_and_then, unwrap_or}
use Rattle.ipc_terms.specs.Objects.{value_asked}
use Rattle.ipc_terms.specs.Timed.{plain}
use Rattle.ipc_terms.specs.declared.call.Call.TheVariants.{SemPost, SemWait, SemTryWait, Interrupt}
use Rattle.ipc_terms.specs.declared.record.Event.{Event}
use Rattle.ipc_terms.specs.declared.record.Event.TheVariants.{Do, Hangup, Tick}
use Rattle.ipc_policy.specs.declared.config.Held.{Held}
use Rattle.ipc_policy.specs.Decides.History.{History, newest}
use Rattle.ipc_policy.specs.Decides.Objects.{creation_of}
use Rattle.ipc_policy.specs.Decides.Life.{gives_object}
use Rattle.ipc_policy.specs.Decides.Queues.{Waiter, tail, has_none}

-- what an event does to one semaphore
pub data SemaphoreAct : Type 0 where
  Posts : SemaphoreAct
  Waits : Waiter → SemaphoreAct
  Tries : SemaphoreAct
  WithdrawsWait : ℕ → SemaphoreAct
  NoSemaphoreAct : SemaphoreAct

-- a tick withdraws the parked wait of the session that is due, where one is
abbrev pub wait_withdrawal : Option ℕ → SemaphoreAct
wait_withdrawal None = NoSemaphoreAct
wait_withdrawal (Some s) = WithdrawsWait s

-- what an event that is no timed call does to semaphore o, by the event's place, what each session holds, and which session
-- is due at which moment; an interrupt and a hang-up withdraw the parked wait of their session, wherever it is, and a tick
-- that of the session that is due
abbrev pub plain_semaphore_act : ℕ → (ℕ → ℕ → Option Held) → (ℕ → Option ℕ) → ℕ → Event → SemaphoreAct
plain_semaphore_act place holds due o (Do sid (SemPost desc)) = if gives_object o (holds sid.0 desc.0) then Posts else NoSemaphoreAct
plain_semaphore_act place holds due o (Do sid (SemWait desc)) = if gives_object o (holds sid.0 desc.0) then Waits (record { place = place; session = sid.0; desc = desc.0 }) else NoSemaphoreAct
plain_semaphore_act place holds due o (Do sid (SemTryWait desc)) = if gives_object o (holds sid.0 desc.0) then Tries else NoSemaphoreAct
plain_semaphore_act place holds due o (Do sid Interrupt) = WithdrawsWait sid.0
plain_semaphore_act place holds due o (Hangup sid) = WithdrawsWait sid.0
plain_semaphore_act place holds due o (Tick moment) = wait_withdrawal (due moment)
plain_semaphore_act place holds due o _ = NoSemaphoreAct

-- what any event does to semaphore o: a timed call does what it does without its deadline
abbrev pub semaphore_act_by : ℕ → (ℕ → ℕ → Option Held) → (ℕ → Option ℕ) → ℕ → Event → SemaphoreAct
semaphore_act_by place holds due o e = plain_semaphore_act place holds due o (plain e)

-- a semaphore, act by act: its running value, and the waits that are parked on it, longest parked first
pub record Semaphore : Type 0 where
  pub running : ℕ
  pub waiters : List Waiter

-- a semaphore before its creation
abbrev pub no_semaphore : Semaphore
no_semaphore = record { running = 0; waiters = [] }

-- a post serves the longest parked wait, and only where none is parked does it raise the running value; a wait and a trywait
-- lower it, at 0 they leave it
abbrev pub running_after : SemaphoreAct → Semaphore → ℕ
running_after Posts q = if has_none q.waiters then q.running + 1 else q.running
running_after (Waits w) q = q.running - 1
running_after Tries q = q.running - 1
running_after (WithdrawsWait s) q = q.running
running_after NoSemaphoreAct q = q.running

-- a wait at 0 parks; a post serves the longest parked wait; an interrupt, a hang-up or a tick withdraws
abbrev pub waiters_after : SemaphoreAct → Semaphore → List Waiter
waiters_after Posts q = tail q.waiters
waiters_after (Waits w) q = if q.running == 0 then q.waiters ++ w ∷ [] else q.waiters
waiters_after Tries q = q.waiters
waiters_after (WithdrawsWait s) q = filter (λ w. not (w.session == s)) q.waiters
waiters_after NoSemaphoreAct q = q.waiters

-- a semaphore after an act
abbrev pub semaphore_after : SemaphoreAct → Semaphore → Semaphore
semaphore_after a q = record { running = running_after a q; waiters = waiters_after a q }

-- a semaphore that is given this first value, where one is given
abbrev pub with_first : Option ℕ → Semaphore → Semaphore
with_first None q = q
with_first (Some first_value) q = record q { running = first_value }

-- the open that creates semaphore o gives it its first value
abbrev pub gives_value : ℕ → Event → History → Option ℕ
gives_value o e before = option_and_then (λ asked. value_asked asked.kind) (creation_of o e before)

-- a post
abbrev pub is_post : SemaphoreAct → Bool
is_post Posts = true
is_post _ = false

-- a trywait, a wait that does not park, or a post that serves a parked wait: by each of them one call gets what it wants
abbrev pub is_pass : SemaphoreAct → Semaphore → Bool
is_pass Tries q = true
is_pass (Waits w) q = not (q.running == 0)
is_pass Posts q = not (has_none q.waiters)
is_pass _ q = false

-- the value that the creation of semaphore o gave it
abbrev pub given_value : History → ℕ → ℕ
given_value h o = unwrap_or (newest (gives_value o) h) 0
