-- An event, and the configuration and the history that it meets.
use Rattle.std.specs.Prelude.{ℕ, Option, Some, None, option_and_then}
use Rattle.std.specs.Option.{option_map}
use Rattle.ipc_terms.specs.declared.record.Event.{Event}
use Rattle.ipc_terms.specs.declared.record.Event.TheVariants.{Do}
use Rattle.ipc_terms.specs.declared.ids.Target.{Target}
use Rattle.ipc_terms.specs.declared.ids.Target.TheVariants.{Dir, Name}
use Rattle.ipc_terms.specs.declared.facts.Facts.{Facts}
use Rattle.ipc_terms.specs.Events.{caller}
use Rattle.ipc_policy.specs.declared.config.Config.{Config}
use Rattle.ipc_policy.specs.Decides.History.{History}
use Rattle.ipc_policy.specs.Decides.Names.{Naming, naming, bound}
use Rattle.ipc_policy.specs.Decides.Objects.{facts, directory}
use Rattle.ipc_policy.specs.Decides.Descriptions.{holds}
use Rattle.ipc_policy.specs.declared.asking.Described.{Described}
use Rattle.ipc_policy.specs.Decides.Rules.{described}
use Rattle.ipc_queue.specs.Tickets.{Tickets}
use Rattle.ipc_sem.specs.Counters.{Counter}
use Rattle.ipc_state.specs.Agrees.{queue_meant, semaphore_meant}

pub record Meeting : Type 0 where
  pub config : Config
  pub history : History
  pub event : Event

-- the description that the event names, if it names one
abbrev pub description : Event → Option Described
description (Do sid call) = described call
description _ = None

-- the value of the caller's description that the event names, if it names one
abbrev pub by_description : {A : Type 0} → (ℕ → ℕ → Option A) → Event → Option A
by_description value e = option_and_then (λ x. value (caller e).0 x.desc.0) (description e)

-- the value of the name that the event names, if it names one
abbrev pub by_name : {A : Type 0} → (Naming → Option A) → Event → Option A
by_name value e = option_and_then value (naming e)

-- the object that session s has by description d, by its number
abbrev pub object_by : History → ℕ → ℕ → Option ℕ
object_by h s d = option_map (λ x. x.object) (holds h s d)

-- the object to which a name is bound, by its number
abbrev pub object_bound : History → Naming → Option ℕ
object_bound h x = bound h x.family x.name

-- the queue that session s has by description d, as it is kept
abbrev pub queue_held : Config → History → ℕ → ℕ → Option Tickets
queue_held c h s d = option_and_then (queue_meant c h) (object_by h s d)

-- the semaphore that session s has by description d, as it is kept
abbrev pub semaphore_held : Config → History → ℕ → ℕ → Option Counter
semaphore_held c h s d = option_and_then (semaphore_meant c h) (object_by h s d)

-- the owner, group and mode of a directory, or of the object to which the name is bound that the event names
abbrev pub facts_asked : Meeting → Target → Option Facts
facts_asked m (Dir family) = Some (directory m.history family)
facts_asked m (Name family name) = by_name (λ x. option_and_then (facts m.config m.history) (object_bound m.history x)) m.event
