-- What is seen of a state: the configuration, the history of all events with their verdicts, and the place of the oldest
-- record that is still had.
use Rattle.std.specs.Prelude.{ℕ, Option, option_and_then}
use Rattle.std.specs.Option.{option_map}
use Rattle.ipc_terms.specs.History.{Message}
use Rattle.ipc_terms.specs.Objects.{as_semaphore}
use Rattle.ipc_terms.specs.declared.record.Event.{Event}
use Rattle.ipc_policy.specs.declared.config.Config.{Config}
use Rattle.ipc_policy.specs.Decides.History.{History}
use Rattle.ipc_policy.specs.Decides.Objects.{object}
use Rattle.ipc_policy.specs.Decides.Descriptions.{holds}
use Rattle.ipc_policy.specs.Decides.Queues.{Send, Queue, attributes}
use Rattle.ipc_policy.specs.Decides.Semaphores.{Semaphore}
use Rattle.ipc_policy.specs.Decides.Bodies.{queue, semaphore, value}
use Rattle.ipc_policy.specs.Decides.Verdict.{after_event}

pub record StateView : Type 0 where
  pub config : Config
  pub history : History
  pub first : ℕ

-- with one event more, and the verdict on it
abbrev pub with_event : Event → StateView → StateView
with_event e a = record a { history = after_event a.config a.history e }

-- what a receive of the message gets
abbrev pub brought : Send → Message
brought m = record { priority = m.priority; bytes = m.bytes }

-- the queue that session s has by description d, if it is one
abbrev pub queue_by : Config → History → ℕ → ℕ → Option Queue
queue_by c h s d = option_and_then (λ x. option_map (λ given. queue c h x.object) (attributes c h x.object)) (holds h s d)

-- the semaphore that session s has by description d, if it is one
abbrev pub semaphore_by : Config → History → ℕ → ℕ → Option Semaphore
semaphore_by c h s d = option_and_then (λ x. option_map (λ first_value. semaphore c h x.object) (as_semaphore (object c h x.object))) (holds h s d)

-- the value of the semaphore that session s has by description d, if it is one
abbrev pub value_by : Config → History → ℕ → ℕ → Option ℕ
value_by c h s d = option_and_then (λ x. option_map (λ first_value. value c h x.object) (as_semaphore (object c h x.object))) (holds h s d)
