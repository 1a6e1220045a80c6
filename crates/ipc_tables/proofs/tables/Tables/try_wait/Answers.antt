use Rattle.ipc_terms.specs.Lists.{changed_first}
use Rattle.ipc_sem.specs.Counters.{tried}
use Rattle.ipc_tables.specs.Objects.{is_number, with_semaphore}
use Rattle.ipc_tables.specs.Standing.{rows_in}
use Rattle.ipc_tables.proofs.Parts.{part_absent, part_changed, semaphore_part}
use Rattle.ipc_tables.proofs.TableChanges.{IsWritten, seen_written, written, written_stands}
use Rattle.ipc_tables.proofs.StandingLemmas.{keeps_semaphore}
use Rattle.ipc_tables.proofs.tables.Tables.try_wait.Goals as goal
use Rattle.ipc_tables.proofs.tables.Tables.try_wait.Goals.{Joined-semaphore_mut, in-Some, in_default}

tried_rows : (c : Joined-semaphore_mut) → IsWritten c.self.inside c.match-semaphore_mut.self-inside (changed_first (is_number c.args.object) (with_semaphore tried) (rows_in c.self.inside.objects))
tried_rows c = elim c.match-semaphore_mut.branch [
  | in-Some w ↦ written c.self.inside _ _ _ w.self-inside-is (part_changed semaphore_part c.args.object c.self.inside.objects _ c.semaphore_mut.result c.semaphore_mut.ensures.value tried w.in-Some.semaphore w.try_wait.new.self w.in-Some.is w.try_wait.ensures.rest (c.semaphore_mut.follows.holds w.try_wait.new.self))
  | in_default w ↦ written c.self.inside _ _ _ w.self-inside-is (part_absent semaphore_part c.args.object c.self.inside.objects _ c.semaphore_mut.result c.semaphore_mut.ensures.value tried w.in_default.is c.semaphore_mut.follows.holds-at-none)
]

pub invariant_of-self : goal.invariant_of-self
invariant_of-self c = written_stands c.self.inside _ c.args.object (with_semaphore tried) (keeps_semaphore c.self.inside.descriptions.rows c.args.object tried) (tried_rows c) c.self.invariant

pub returns : goal.returns
returns c = rw (← c.self.view_is) (seen_written c.self.inside _ _ (tried_rows c))
