-- What each queue and each semaphore keeps, event by event. A tick ends the earliest parked call of the whole server whose
-- deadline is past, so what one object keeps depends on all of them: they are told together.
use Rattle.std.specs.Prelude.{Bool, ℕ, ◌+◌, ◌-◌, ◌==◌, max, find, List, [], ◌∷◌, length, Option, None, if◌then◌else◌}
use Rattle.std.specs.Option.{option_or, option_map}
use Rattle.ipc_terms.specs.Objects.{as_semaphore}
use Rattle.ipc_terms.specs.declared.object.TheConstants.{SEM_VALUE_MAX}
use Rattle.ipc_terms.specs.declared.record.Event.{Event}
use Rattle.ipc_policy.specs.declared.config.Config.{Config}
use Rattle.ipc_policy.specs.Decides.History.{History, is_accepted, how_many, is_some_and, first_below}
use Rattle.ipc_policy.specs.Decides.Timed.{now, deadline_at, is_past}
use Rattle.ipc_policy.specs.Decides.Names.{creations}
use Rattle.ipc_policy.specs.Decides.Objects.{object}
use Rattle.ipc_policy.specs.Decides.Descriptions.{holds}
use Rattle.ipc_policy.specs.Decides.Queues.{Send, Waiter, Act, act_by, Queue, empty_queue, has_none, is_filled, queue_after, attributes, maxmsg}
use Rattle.ipc_policy.specs.Decides.Semaphores.{SemaphoreAct, semaphore_act_by, Semaphore, no_semaphore, semaphore_after, with_first, gives_value, given_value, is_post, is_pass}

-- whose call of place i is parked on an object that keeps this
abbrev pub parked_there : ℕ → Queue → Semaphore → Option ℕ
parked_there i q u =
    option_or (option_map (λ m. m.session) (find (λ m. m.place == i) q.senders))
    (option_or (option_map (λ w. w.session) (find (λ w. w.place == i) q.receivers))
    (option_map (λ w. w.session) (find (λ w. w.place == i) u.waiters)))

-- whose call of place i is parked on any of so many objects, by what each keeps
abbrev pub parked_anywhere : (ℕ → Queue) → (ℕ → Semaphore) → ℕ → ℕ → Option ℕ
parked_anywhere queue semaphore objects i = first_below (λ o. parked_there i (queue o) (semaphore o)) objects

-- whose call a tick of this moment ends, by what each object keeps: of the parked calls whose deadline is at most the time
-- that it then is, the earliest
abbrev pub due_by : (ℕ → Queue) → (ℕ → Semaphore) → History → ℕ → Option ℕ
due_by queue semaphore h moment =
    first_below (λ i. if is_past (max moment (now h)) (deadline_at h i) then parked_anywhere queue semaphore (creations h) i else None) (length h)

unfoldable mutual
  -- queue o
  pub queue : Config → History → ℕ → Queue
  queue c [] o = empty_queue
  queue c (r ∷ before) o =
      if is_accepted r
      then queue_after (maxmsg c before o) (act_by (length before) (holds before) (due_by (queue c before) (semaphore c before) before) o r.event) (queue c before o)
      else queue c before o

  -- semaphore o, act by act; the law `counted` says that its running value is the value that the rules ask, which is counted
  pub semaphore : Config → History → ℕ → Semaphore
  semaphore c [] o = no_semaphore
  semaphore c (r ∷ before) o =
      if is_accepted r
      then with_first (gives_value o r.event before) (semaphore_after (semaphore_act_by (length before) (holds before) (due_by (queue c before) (semaphore c before) before) o r.event) (semaphore c before o))
      else semaphore c before o

-- the session whose call a tick of this moment ends
abbrev pub due : Config → History → ℕ → Option ℕ
due c h moment = due_by (queue c h) (semaphore c h) h moment

-- what an event does to queue o
abbrev pub act : Config → ℕ → Event → History → Act
act c o e before = act_by (length before) (holds before) (due c before) o e

-- what an event does to semaphore o
abbrev pub semaphore_act : Config → ℕ → Event → History → SemaphoreAct
semaphore_act c o e before = semaphore_act_by (length before) (holds before) (due c before) o e

-- the sends that entered queue o and were not taken, in order of entry
abbrev pub contents : Config → History → ℕ → List Send
contents c h o = (queue c h o).contents

-- the sends that are parked on queue o, longest parked first
abbrev pub senders : Config → History → ℕ → List Send
senders c h o = (queue c h o).senders

-- the receives that are parked on queue o, longest parked first
abbrev pub receivers : Config → History → ℕ → List Waiter
receivers c h o = (queue c h o).receivers

-- there is such a queue, and it has as many messages as it may
abbrev pub is_full : Config → History → ℕ → Bool
is_full c h o = is_some_and (λ x. is_filled x.maxmsg (contents c h o)) (attributes c h o)

-- there is such a queue, and it has no messages
abbrev pub is_empty : Config → History → ℕ → Bool
is_empty c h o = is_some_and (λ x. has_none (contents c h o)) (attributes c h o)

-- how many posts to semaphore o were accepted
abbrev pub posts : Config → History → ℕ → ℕ
posts c h o = how_many (λ e before. is_post (semaphore_act c o e before)) h

-- how many calls got what they want of semaphore o
abbrev pub passes : Config → History → ℕ → ℕ
passes c h o = how_many (λ e before. is_pass (semaphore_act c o e before) (semaphore c before o)) h

-- the value of semaphore o, which the rules ask: its first value and the accepted posts, less the accepted trywaits, the accepted waits that
-- did not park, and those that a post served
unfoldable pub value : Config → History → ℕ → ℕ
value c h o = (given_value h o + posts c h o) - passes c h o

-- the waits that are parked on semaphore o, longest parked first
abbrev pub waiters : Config → History → ℕ → List Waiter
waiters c h o = (semaphore c h o).waiters

-- there is such a semaphore, and its value is 0
abbrev pub is_zero : Config → History → ℕ → Bool
is_zero c h o = is_some_and (λ first_value. value c h o == 0) (as_semaphore (object c h o))

-- there is such a semaphore, and its value is the greatest
abbrev pub is_greatest : Config → History → ℕ → Bool
is_greatest c h o = is_some_and (λ first_value. value c h o == SEM_VALUE_MAX) (as_semaphore (object c h o))
