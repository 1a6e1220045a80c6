-- Objects in their table, and what is looked up there.
use Rattle.std.specs.Prelude.{Bool, ℕ, ◌-◌, ◌^◌, ◌<◌, ◌≤◌, ◌==◌, min, List, [], length, find, count_by, Option, Some, None, is_some, option_and_then, if◌then◌else◌}
use Rattle.std.specs.List.{sum_by}
use Rattle.std.specs.Option.{option_map}
use Rattle.ipc_terms.specs.declared.facts.Facts.{Facts}
use Rattle.ipc_terms.specs.declared.object.Kind.{Kind}
use Rattle.ipc_terms.specs.declared.object.Kind.TheVariants.{Queue as QueueKind, Semaphore as SemaphoreKind}
use Rattle.ipc_terms.specs.declared.object.TheConstants.{SEM_VALUE_MAX}
use Rattle.ipc_terms.specs.declared.object.Object.{Object}
use Rattle.ipc_terms.specs.Objects.{queue_bytes}
use Rattle.ipc_terms.specs.declared.ids.Sid.{Sid}
use Rattle.ipc_terms.specs.declared.ids.Desc.{Desc}
use Rattle.ipc_descr.specs.declared.row.Row.{Row}
use Rattle.ipc_descr.specs.Descriptions.{is_desc}
use Rattle.ipc_queue.specs.Tickets.{Tickets, bytes_in, withdrawn as withdrawn_call, without_registration}
use Rattle.ipc_sem.specs.Counters.{Counter, withdrawn as withdrawn_wait}
use Rattle.ipc_tables.specs.declared.counts.Counts.{Counts}
use Rattle.ipc_tables.specs.declared.rows.Body.{Body}
use Rattle.ipc_tables.specs.declared.rows.Body.TheVariants.{Queue as QueueBody, Semaphore as SemaphoreBody}
use Rattle.ipc_tables.specs.declared.rows.ObjectRow.{ObjectRow}

-- a queue has room for a message of a byte and for no more than the greatest has, and a semaphore's first value is in its range
abbrev pub HasRoom : Kind → Type 0
HasRoom (QueueKind attributes) = ((0 < attributes.maxmsg) × (attributes.maxmsg ≤ 65536)) × ((0 < attributes.msgsize) × (attributes.msgsize ≤ 16777216))
HasRoom (SemaphoreKind value) = value ≤ SEM_VALUE_MAX

-- the queue, if it is one
abbrev pub queue_in : Body → Option Tickets
queue_in (QueueBody queue) = Some queue
queue_in (SemaphoreBody semaphore) = None

-- the semaphore, if it is one
abbrev pub semaphore_in : Body → Option Counter
semaphore_in (QueueBody queue) = None
semaphore_in (SemaphoreBody semaphore) = Some semaphore

-- how many messages stand in it: none in a semaphore
abbrev pub messages_in : Body → ℕ
messages_in (QueueBody queue) = length queue.tickets
messages_in (SemaphoreBody semaphore) = 0

-- and how many bytes they have in all
abbrev pub bytes_of_messages : Body → ℕ
bytes_of_messages (QueueBody queue) = bytes_in queue.tickets
bytes_of_messages (SemaphoreBody semaphore) = 0

-- the queue changes
abbrev pub with_body : (Tickets → Tickets) → Body → Body
with_body change (QueueBody queue) = QueueBody (change queue)
with_body change (SemaphoreBody semaphore) = SemaphoreBody semaphore

-- the semaphore changes
abbrev pub with_counter : (Counter → Counter) → Body → Body
with_counter change (QueueBody queue) = QueueBody queue
with_counter change (SemaphoreBody semaphore) = SemaphoreBody (change semaphore)

-- the session's parked call is gone
abbrev pub without_call : Sid → Body → Body
without_call who (QueueBody queue) = QueueBody (withdrawn_call who queue)
without_call who (SemaphoreBody semaphore) = SemaphoreBody (withdrawn_wait who semaphore)

-- the bytes that an object takes: those of a queue
abbrev pub bytes_taken : Kind → ℕ
bytes_taken (QueueKind attributes) = queue_bytes attributes.maxmsg attributes.msgsize
bytes_taken (SemaphoreKind value) = 0

-- what stands in a new object
abbrev pub new_body : Kind → Body
new_body (QueueKind attributes) = QueueBody (record { maxmsg = attributes.maxmsg; msgsize = attributes.msgsize; tickets = []; senders = []; receivers = []; registered = None })
new_body (SemaphoreKind value) = SemaphoreBody (record { value = value; waiters = [] })

-- the row of a new object
abbrev pub new_row : ℕ → Object → Facts → ObjectRow
new_row o object facts = record { number = o; object = object; facts = facts; bytes = bytes_taken object.kind; body = new_body object.kind }

-- whether this is object o
abbrev pub is_number : ℕ → ObjectRow → Bool
is_number o row = row.number == o

-- whether it is a queue
abbrev pub is_queue : ObjectRow → Bool
is_queue row = is_some (queue_in row.body)

-- whether it is a semaphore
abbrev pub is_semaphore : ObjectRow → Bool
is_semaphore row = is_some (semaphore_in row.body)

-- how many queues and semaphores these objects are, and how many messages stand in the queues, with how many bytes, as far as a number of 64 bits tells
abbrev pub counts_of : List ObjectRow → Counts
counts_of objects = record { queues = count_by is_queue objects; semaphores = count_by is_semaphore objects; messages = min (sum_by (λ row. messages_in row.body) objects) (2 ^ 64 - 1); bytes = min (sum_by (λ row. bytes_of_messages row.body) objects) (2 ^ 64 - 1) }

-- the row of object o
abbrev pub row_at : List ObjectRow → ℕ → Option ObjectRow
row_at objects o = find (is_number o) objects

-- the owner, group and mode of object o
abbrev pub facts_at : List ObjectRow → ℕ → Option Facts
facts_at objects o = option_map (λ row. row.facts) (row_at objects o)

-- the queue that object o is
abbrev pub queue_at : List ObjectRow → ℕ → Option Tickets
queue_at objects o = option_and_then (λ row. queue_in row.body) (row_at objects o)

-- the semaphore that object o is
abbrev pub semaphore_at : List ObjectRow → ℕ → Option Counter
semaphore_at objects o = option_and_then (λ row. semaphore_in row.body) (row_at objects o)

-- the queue in a row changes
abbrev pub with_queue : (Tickets → Tickets) → ObjectRow → ObjectRow
with_queue change row = record row { body = with_body change row.body }

-- the semaphore in a row changes
abbrev pub with_semaphore : (Counter → Counter) → ObjectRow → ObjectRow
with_semaphore change row = record row { body = with_counter change row.body }

-- the owner, group and mode of a row change
abbrev pub with_facts : Facts → ObjectRow → ObjectRow
with_facts facts row = record row { facts = facts }

-- the session's parked call in a row is gone
abbrev pub with_withdrawal : Sid → ObjectRow → ObjectRow
with_withdrawal who row = record row { body = without_call who row.body }

-- the description that is registered for the notice of a queue
abbrev pub registered_in : Body → Option Desc
registered_in body = option_and_then (λ q. q.registered) (queue_in body)

-- the row without the registration of this description, unless that is held
abbrev pub held_by : List Row → ObjectRow → Option Desc → ObjectRow
held_by rows row None = row
held_by rows row (Some desc) = if is_some (find (is_desc desc.0) rows) then row else with_queue (without_registration desc) row

-- the registration in a row is gone, where its description is held no longer
abbrev pub with_held : List Row → ObjectRow → ObjectRow
with_held rows row = held_by rows row (registered_in row.body)
