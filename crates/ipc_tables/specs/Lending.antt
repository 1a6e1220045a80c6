-- What the objects end as, once a queue or a semaphore that one of them lent was changed.
use Rattle.std.specs.Prelude.{◌≡◌, ℕ, List, Option, length}
use Rattle.std.specs.Option.{OnSome}
use Rattle.std.specs.Borrow.{LendsSo, MutBor, Fml}
use Rattle.ipc_terms.specs.Lists.{changed_first}
use Rattle.ipc_queue.specs.Tickets.{Tickets}
use Rattle.ipc_queue.specs.contracts.queue.Queue.{the_row as queue_row}
use Rattle.ipc_sem.specs.Counters.{Counter}
use Rattle.ipc_sem.specs.contracts.semaphore.Sem.{the_row as semaphore_row}
use Rattle.ipc_tables.specs.contracts.objects.Objects.{the_row}
use Rattle.ipc_tables.specs.declared.objects.Objects.{Objects}
use Rattle.ipc_tables.specs.declared.rows.ObjectRow.{ObjectRow}
use Rattle.ipc_tables.specs.Objects.{is_number, with_queue, with_semaphore}
use Rattle.ipc_tables.specs.Standing.{rows_in, IsCounted}

-- the objects have these rows now, each at its number, and all else stays
pub record HasRows (rows : List ObjectRow) (objects after : Objects) : Type 0 where
  pub counted : IsCounted after
  pub rows_are : rows_in after ≡ rows
  pub created : length after.rows ≡ length objects.rows
  pub charges : after.charges ≡ objects.charges

-- the queue that object o is ends as what was last written through r; where it is none, all stays
abbrev pub LendsQueue : MutBor Objects → ℕ → Option (MutBor Tickets) → Fml
LendsQueue s o r = LendsSo the_row queue_row s r (λ after w. OnSome r (HasRows (changed_first (is_number o) (with_queue (λ q. w)) (rows_in s.now)) s.now after)) (HasRows (rows_in s.now) s.now)

-- and so does the semaphore that it is
abbrev pub LendsSemaphore : MutBor Objects → ℕ → Option (MutBor Counter) → Fml
LendsSemaphore s o r = LendsSo the_row semaphore_row s r (λ after w. OnSome r (HasRows (changed_first (is_number o) (with_semaphore (λ q. w)) (rows_in s.now)) s.now after)) (HasRows (rows_in s.now) s.now)
