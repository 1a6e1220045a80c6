-- What is seen of a semaphore: its value, and the sessions whose waits are parked on it.
use Rattle.std.specs.Prelude.{◌≡◌, Bool, true, false, ℕ, ◌+◌, ◌-◌, ◌<◌, ◌≤◌, ◌==◌, ◌&&◌, List, [], ◌∷◌, ◌++◌, length, if◌then◌else◌}
use Rattle.ipc_terms.specs.Events.{is_session}
use Rattle.ipc_terms.specs.Lists.{without_first}
use Rattle.ipc_terms.specs.declared.ids.Sid.{Sid}
use Rattle.ipc_terms.specs.declared.object.TheConstants.{SEM_VALUE_MAX}
use Rattle.ipc_sem.specs.declared.semaphore.WaitOutcome.{WaitOutcome}
use Rattle.ipc_sem.specs.declared.semaphore.WaitOutcome.TheVariants.{Passed, Parked}

-- the sessions stand in the order in which their waits parked
pub record Counter : Type 0 where
  pub value : ℕ
  pub waiters : List Sid

-- what holds of every semaphore: its value is at most the greatest, and a wait is parked only where it is 0
pub record IsCounter (counter : Counter) : Type 0 where
  pub within : counter.value ≤ SEM_VALUE_MAX
  pub waiters_at_zero : 0 < length counter.waiters → counter.value ≡ 0

-- no wait is parked
abbrev pub has_no_waiter : List Sid → Bool
has_no_waiter [] = true
has_no_waiter (waiter ∷ others) = false

-- a post overflows: no wait is parked, and the value is the greatest
unfoldable pub overflows : Counter → Bool
overflows counter = has_no_waiter counter.waiters && (counter.value == SEM_VALUE_MAX)

-- the semaphore after a post where these waits are parked: the longest parked is gone, and the value stays; where none is parked, the value rises
abbrev pub posted_to : Counter → List Sid → Counter
posted_to counter [] = record counter { value = counter.value + 1 }
posted_to counter (waiter ∷ others) = record counter { waiters = others }

-- the semaphore after a post
unfoldable pub posted : Counter → Counter
posted counter = posted_to counter counter.waiters

-- what becomes of a wait: at 0 it parks
unfoldable pub wait_outcome : Counter → WaitOutcome
wait_outcome counter = if counter.value == 0 then Parked else Passed

-- the semaphore after a wait: at 0 it parks behind all parked ones, else it lowers the value
unfoldable pub waited : Sid → Counter → Counter
waited who counter =
    if counter.value == 0 then record counter { waiters = counter.waiters ++ who ∷ [] } else record counter { value = counter.value - 1 }

-- the semaphore after a wait that does not park: at 0 it does nothing
unfoldable pub tried : Counter → Counter
tried counter = record counter { value = counter.value - 1 }

-- the session's longest parked wait is gone
unfoldable pub withdrawn : Sid → Counter → Counter
withdrawn who counter = record counter { waiters = without_first (is_session who) counter.waiters }
