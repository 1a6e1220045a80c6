-- What the objects take of the bytes of their creators, and what becomes of the charges.
use Rattle.std.specs.Prelude.{Bool, ℕ, ◌+◌, ◌≤◌, ◌==◌, List, [], ◌∷◌, sum_by, ⊤, if◌then◌else◌}
use Rattle.ipc_terms.specs.declared.object.Kind.{Kind}
use Rattle.ipc_terms.specs.declared.object.Kind.TheVariants.{Queue as QueueKind, Semaphore as SemaphoreKind}
use Rattle.ipc_terms.specs.Objects.{queue_bytes}
use Rattle.ipc_descr.specs.declared.charges.Charge.{Charge}
use Rattle.ipc_descr.specs.Charges.{used_of, limit_of, with_added, with_less}
use Rattle.ipc_tables.specs.declared.rows.ObjectRow.{ObjectRow}

-- what an object takes of the bytes of user u
abbrev pub taken_by : ℕ → ObjectRow → ℕ
taken_by u row = if row.object.creator.0 == u then row.bytes else 0

-- what the objects take of the bytes of user u
abbrev pub taken : ℕ → List ObjectRow → ℕ
taken u objects = sum_by (taken_by u) objects

-- each user is charged with what the user's objects take, or more
abbrev pub Covered : List Charge → List ObjectRow → Type 0
Covered charges objects = (u : ℕ) → taken u objects ≤ used_of charges u

-- user u has room for the bytes of a queue
abbrev pub Affords : List Charge → ℕ → Kind → Type 0
Affords charges u (QueueKind attributes) = used_of charges u + queue_bytes attributes.maxmsg attributes.msgsize ≤ limit_of charges u
Affords charges u (SemaphoreKind value) = ⊤

-- user u is charged with the bytes of a queue
abbrev pub charged_with : List Charge → ℕ → Kind → List Charge
charged_with charges u (QueueKind attributes) = with_added charges u (queue_bytes attributes.maxmsg attributes.msgsize)
charged_with charges u (SemaphoreKind value) = charges

-- the objects that are not kept have given back what they took
abbrev pub settled : (ObjectRow → Bool) → List ObjectRow → List Charge → List Charge
settled keep [] charges = charges
settled keep (row ∷ rows) charges = settled keep rows (if keep row then charges else with_less charges row.object.creator.0 row.bytes)
