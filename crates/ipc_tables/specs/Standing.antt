-- What holds of the tables between calls, so that what a call ends is found by what it touches.
use Rattle.std.specs.Prelude.{◌≡◌, ◌≢◌, ⊤, Bool, true, ℕ, ◌+◌, List, [], ◌∷◌, Option, Some, None, IfSome, count_by, find}
use Rattle.std.specs.List.{AllByRecursion, filter_map}
use Rattle.std.specs.Option.{option_map}
use Rattle.ipc_terms.specs.declared.binding.Binding.{Binding}
use Rattle.ipc_terms.specs.declared.ids.Desc.{Desc}
use Rattle.ipc_names.specs.Directory.{Directory, object_named}
use Rattle.ipc_descr.specs.declared.row.Row.{Row}
use Rattle.ipc_descr.specs.Descriptions.{is_desc}
use Rattle.ipc_tables.specs.declared.objects.Objects.{Objects}
use Rattle.ipc_tables.specs.declared.rows.ObjectRow.{ObjectRow}
use Rattle.ipc_tables.specs.Objects.{is_queue, registered_in, with_held}
use Rattle.ipc_tables.specs.TablesView.{is_kept}

-- the rows that are there, in the order of their slots
abbrev pub rows_of : List (Option ObjectRow) → List ObjectRow
rows_of slots = filter_map (λ slot. slot) slots

-- the rows of the objects, in the order of their numbers
abbrev pub rows_in : Objects → List ObjectRow
rows_in objects = rows_of objects.rows

-- each row has the number of its slot, where that of the first is n
abbrev pub InPlace : ℕ → List (Option ObjectRow) → Type 0
InPlace n [] = ⊤
InPlace n (slot ∷ slots) = IfSome slot (λ row. row.number ≡ n) × InPlace (n + 1) slots

-- each object stands at its number, and the queues among them are counted
pub record IsCounted (objects : Objects) : Type 0 where
  pub numbered : InPlace 0 objects.rows
  pub counted : objects.queue_count ≡ count_by is_queue (rows_in objects)

-- no name is bound twice
abbrev pub BoundOnce : List Binding → Type 0
BoundOnce [] = ⊤
BoundOnce (binding ∷ bindings) = (object_named bindings binding.name ≡ None) × BoundOnce bindings

-- each of the objects, but for the one that was touched, is kept
abbrev pub OthersKept : Option ℕ → (ObjectRow → Bool) → List ObjectRow → Type 0
OthersKept touched keep objects = AllByRecursion (λ row. touched ≢ Some row.number → keep row ≡ true) objects

-- and has no registration that is held no longer
abbrev pub OthersHeld : Option ℕ → List Row → List ObjectRow → Type 0
OthersHeld touched rows objects = AllByRecursion (λ row. touched ≢ Some row.number → with_held rows row ≡ row) objects

-- a registration, if there is one, is of a description that gives this very object
abbrev pub IsOwn : List Row → ObjectRow → Type 0
IsOwn rows row = (desc : Desc) → registered_in row.body ≡ Some desc → option_map (λ r. r.object) (find (is_desc desc.0) rows) ≡ Some row.number

-- all of that, of all tables
pub record IsStanding (queues semaphores : Directory) (rows : List Row) (objects : Objects) : Type 0 where
  pub counted : IsCounted objects
  pub queue_names : BoundOnce queues.bindings
  pub semaphore_names : BoundOnce semaphores.bindings
  pub kept : AllByRecursion (λ row. is_kept queues semaphores rows row ≡ true) (rows_in objects)
  pub own : AllByRecursion (IsOwn rows) (rows_in objects)
