-- What the tables have, and what is looked up in them.
use Rattle.std.specs.Prelude.{Bool, false, ℕ, ◌||◌, List, slice_get, Option, Some, None, option_and_then, if◌then◌else◌}
use Rattle.ipc_terms.specs.declared.ids.Family.{Family}
use Rattle.ipc_terms.specs.declared.ids.Family.TheVariants.{Mq, Sem}
use Rattle.ipc_names.specs.Directory.{Directory, names_object}
use Rattle.ipc_descr.specs.declared.row.Row.{Row}
use Rattle.ipc_descr.specs.declared.charges.Charge.{Charge}
use Rattle.ipc_descr.specs.Descriptions.{Descriptions, is_open}
use Rattle.ipc_tables.specs.declared.rows.Session.{Session}
use Rattle.ipc_tables.specs.declared.rows.ObjectRow.{ObjectRow}

-- all that is kept: sessions stand at their numbers, objects in the order of theirs, while they are alive, and users' charges in the order of the user file
pub record TablesView : Type 0 where
  pub sessions : List Session
  pub queues : Directory
  pub semaphores : Directory
  pub objects : List ObjectRow
  pub created : ℕ
  pub descriptions : Descriptions
  pub charges : List Charge

-- whether there is a session, and it is live
abbrev pub is_live_row : Option Session → Bool
is_live_row None = false
is_live_row (Some row) = row.is_live

-- whether session s is live
abbrev pub live_at : List Session → ℕ → Bool
live_at sessions s = is_live_row (slice_get sessions s)

-- the row, while its session is live
abbrev pub live_row : Session → Option Session
live_row row = if row.is_live then Some row else None

-- session s, while it is live
abbrev pub live_session : List Session → ℕ → Option Session
live_session sessions s = option_and_then live_row (slice_get sessions s)

-- the object on which the call of session s is parked
abbrev pub parked_on_at : List Session → ℕ → Option ℕ
parked_on_at sessions s = option_and_then (λ row. row.parked_on) (slice_get sessions s)

-- the names of a family, and its directory
abbrev pub directory_kept : Family → TablesView → Directory
directory_kept Mq t = t.queues
directory_kept Sem t = t.semaphores

-- a name is bound to object o, or a description gives it
abbrev pub is_alive : Directory → Directory → List Row → ℕ → Bool
is_alive queues semaphores rows o = names_object queues.bindings o || names_object semaphores.bindings o || is_open rows o

-- the same of an object in its table
abbrev pub is_kept : Directory → Directory → List Row → ObjectRow → Bool
is_kept queues semaphores rows row = is_alive queues semaphores rows row.number
