use Rattle.std.proofs.Common.{◌≡◌, ◌+◌, ◌-◌, ◌≤◌, drop, count_by}
use Rattle.std.specs.Prelude.{min}
use Rattle.std.specs.List.{sum_by}
use Rattle.ipc_tables.specs.Objects.{is_queue, is_semaphore, messages_in, bytes_of_messages}
use Rattle.ipc_tables.specs.Standing.{rows_in, rows_of}
use Rattle.ipc_tables.proofs.objects.Objects.counts.Given as goal

-- what is counted, and what stands from the next slot on, make all
abbrev pub invariant-loop-number : goal.invariant-loop-number
invariant-loop-number l = record {
  queues : l.counts.queues + count_by is_queue (rows_of (drop l.next l.self.rows)) ≡ count_by is_queue (rows_in l.self);
  semaphores : l.counts.semaphores + count_by is_semaphore (rows_of (drop l.next l.self.rows)) ≡ count_by is_semaphore (rows_in l.self);
  messages : min (l.counts.messages + sum_by (λ row. messages_in row.body) (rows_of (drop l.next l.self.rows))) 18446744073709551615 ≡ min (sum_by (λ row. messages_in row.body) (rows_in l.self)) 18446744073709551615;
  messages_bounded : l.counts.messages ≤ 18446744073709551615;
  bytes : min (l.counts.bytes + sum_by (λ row. bytes_of_messages row.body) (rows_of (drop l.next l.self.rows))) 18446744073709551615 ≡ min (sum_by (λ row. bytes_of_messages row.body) (rows_in l.self)) 18446744073709551615;
  bytes_bounded : l.counts.bytes ≤ 18446744073709551615;
}

abbrev pub decreases-loop-number : goal.decreases-loop-number
decreases-loop-number l = l.end - l.next
