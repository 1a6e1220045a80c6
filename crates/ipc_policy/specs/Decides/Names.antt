-- Opens and unlinks, the names that they bind and unbind, and the objects that opens create.
use Rattle.std.specs.Prelude.{Bool, true, false, ℕ, ◌&&◌, not, List, Option, Some, None, if◌then◌else◌, unwrap_or, is_some}
use Rattle.ipc_terms.specs.Flags.{has_create, has_nonblock}
use Rattle.ipc_terms.specs.Names.{same_family, same_name}
use Rattle.ipc_terms.specs.declared.ids.Sid.{Sid}
use Rattle.ipc_terms.specs.declared.ids.Mode.{Mode}
use Rattle.ipc_terms.specs.declared.ids.Family.{Family}
use Rattle.ipc_terms.specs.declared.ids.Family.TheVariants.{Mq, Sem}
use Rattle.ipc_terms.specs.declared.ids.Target.TheVariants.{Name}
use Rattle.ipc_terms.specs.declared.flags.OpenFlags.{OpenFlags}
use Rattle.ipc_terms.specs.declared.call.Access.{Access}
use Rattle.ipc_terms.specs.declared.call.Access.TheVariants.{Both}
use Rattle.ipc_terms.specs.declared.call.QueueOpen.{QueueOpen}
use Rattle.ipc_terms.specs.declared.call.SemaphoreOpen.{SemaphoreOpen}
use Rattle.ipc_terms.specs.declared.call.Call.TheVariants.{MqOpen, MqUnlink, SemOpen, SemUnlink, StatName, Chmod, Chown}
use Rattle.ipc_terms.specs.declared.object.Asked.{Asked}
use Rattle.ipc_terms.specs.declared.object.Asked.TheVariants.{Queue, Semaphore}
use Rattle.ipc_terms.specs.declared.record.Event.{Event}
use Rattle.ipc_terms.specs.declared.record.Event.TheVariants.{Do}
use Rattle.ipc_policy.specs.Decides.History.{History, newest, unended, how_many}

-- what an open asks for, and what of the object that it may create
pub record Opening : Type 0 where
  pub session : Sid
  pub family : Family
  pub name : List ℕ
  pub flags : OpenFlags
  pub access : Access
  pub mode : Mode
  pub kind : Asked

-- what a queue's open asks for
abbrev pub queue_opening : Sid → QueueOpen → Opening
queue_opening sid asked = record { session = sid; family = Mq; name = asked.name; flags = asked.flags; access = asked.access; mode = asked.mode; kind = Queue asked.attributes }

-- what a semaphore's open asks for: a semaphore is always opened for reading and writing
abbrev pub semaphore_opening : Sid → SemaphoreOpen → Opening
semaphore_opening sid asked = record { session = sid; family = Sem; name = asked.name; flags = asked.flags; access = Both; mode = asked.mode; kind = Semaphore asked.value }

-- the open that an event is, if it is one
abbrev pub opening : Event → Option Opening
opening (Do sid (MqOpen asked)) = Some (queue_opening sid asked)
opening (Do sid (SemOpen asked)) = Some (semaphore_opening sid asked)
opening _ = None

-- NONBLOCK means something to an open of a queue alone
abbrev pub nonblock_asked : Asked → OpenFlags → Bool
nonblock_asked (Queue given) flags = has_nonblock flags
nonblock_asked (Semaphore value) flags = false

-- whose call it is, and the name of which family it names
pub record Naming : Type 0 where
  pub session : Sid
  pub family : Family
  pub name : List ℕ

-- what an unlink names, if the event is one
abbrev pub unlinking : Event → Option Naming
unlinking (Do sid (MqUnlink name)) = Some (record { session = sid; family = Mq; name = name })
unlinking (Do sid (SemUnlink name)) = Some (record { session = sid; family = Sem; name = name })
unlinking _ = None

-- what a named call names, if the event is one: an open, an unlink, or a stat, a chmod or a chown of a name
abbrev pub naming : Event → Option Naming
naming (Do sid (MqOpen asked)) = Some (record { session = sid; family = Mq; name = asked.name })
naming (Do sid (MqUnlink name)) = Some (record { session = sid; family = Mq; name = name })
naming (Do sid (SemOpen asked)) = Some (record { session = sid; family = Sem; name = asked.name })
naming (Do sid (SemUnlink name)) = Some (record { session = sid; family = Sem; name = name })
naming (Do sid (StatName (Name family name))) = Some (record { session = sid; family = family; name = name })
naming (Do sid (Chmod mode (Name family name))) = Some (record { session = sid; family = family; name = name })
naming (Do sid (Chown owner group (Name family name))) = Some (record { session = sid; family = family; name = name })
naming _ = None

-- the event is an unlink of this name of this family
abbrev pub unlinks : Family → List ℕ → Event → Bool
unlinks family name e = unlinked (unlinking e) where
  unlinked : Option Naming → Bool
  unlinked None = false
  unlinked (Some named) = same_family named.family family && same_name name named.name

-- it asks for this name of this family
abbrev pub asks_name : Opening → Family → List ℕ → Bool
asks_name asked family name = same_family asked.family family && same_name asked.name name

-- an accepted open with CREAT leaves its name bound, whether it made the object or found it; an unlink leaves it unbound
abbrev pub leaves_bound : Family → List ℕ → Event → History → Option Bool
leaves_bound family name e before = left_by (opening e) where
  left_by : Option Opening → Option Bool
  left_by None = if unlinks family name e then Some false else None
  left_by (Some asked) = if has_create asked.flags && asks_name asked family name then Some true else None

-- whether the name is bound
unfoldable pub is_bound : History → Family → List ℕ → Bool
is_bound h family name = unwrap_or (newest (leaves_bound family name) h) false

-- an open with CREAT of a name that is unbound creates an object
unfoldable pub creating : History → Opening → Bool
creating before asked = has_create asked.flags && not (is_bound before asked.family asked.name)

-- the open that an event is, where it creates an object
abbrev pub creation : Event → History → Option Opening
creation e before = created_by (opening e) where
  created_by : Option Opening → Option Opening
  created_by None = None
  created_by (Some asked) = if creating before asked then Some asked else None

-- how many objects were created, of both families together
unfoldable pub creations : History → ℕ
creations h = how_many (λ e before. is_some (creation e before)) h

-- the open that creates an object binds its name to it: objects are numbered by the creations before them
abbrev pub binds : Family → List ℕ → Event → History → Option ℕ
binds family name e before = bound_by (creation e before) where
  bound_by : Option Opening → Option ℕ
  bound_by None = None
  bound_by (Some asked) = if asks_name asked family name then Some (creations before) else None

-- the object to which the name is bound, until the name is unlinked
unfoldable pub bound : History → Family → List ℕ → Option ℕ
bound h family name = unended (binds family name) (λ o e before. unlinks family name e) h
