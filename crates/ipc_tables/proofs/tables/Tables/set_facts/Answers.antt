use Rattle.std.proofs.Common.{refl, sym, ap, ◌∙◌}
use Rattle.std.specs.Option.{option_copied_mut}
use Rattle.ipc_terms.specs.Lists.{changed_first}
use Rattle.ipc_tables.specs.Lending.{HasRows}
use Rattle.ipc_tables.specs.Objects.{is_number, with_facts}
use Rattle.ipc_tables.specs.Standing.{rows_in}
use Rattle.ipc_tables.proofs.StandingLemmas.{keeps_facts, changed_stands, named_stands, names_same}
use Rattle.ipc_tables.proofs.RowChanges.{row_absent, row_written, sets_row}
use Rattle.ipc_tables.proofs.TableChanges.{seen}
use Rattle.ipc_tables.proofs.tables.Tables.set_facts.Goals as goal
use Rattle.ipc_tables.proofs.tables.Tables.set_facts.Goals.{In-Some}

with_facts_rows : (c : In-Some) → HasRows (changed_first (is_number c.in-Object.object) (with_facts c.args.facts) (rows_in c.self.inside.objects)) c.self.inside.objects (record c.self.inside.objects { rows = c.get_mut.follows.lender (with_facts c.args.facts c.in-Some.row.now) })
with_facts_rows c = row_written c.in-Object.object (with_facts c.args.facts) c.in-Some.row.now c.self.inside.objects _ c.self.invariant.counted refl refl (sets_row c.in-Object.object c.in-Some.row _ c.get_mut.result _ _ c.get_mut.ensures.value c.in-Some.is (c.get_mut.follows.holds (with_facts c.args.facts c.in-Some.row.now)))

pub invariant_of-self : goal.invariant_of-self
invariant_of-self c = changed_stands c.self.inside c.in-Object.object (with_facts c.args.facts) _ (keeps_facts c.self.inside.descriptions.rows c.in-Object.object c.args.facts) (with_facts_rows (goal.at.invariant_of-self c).In-Some) c.self.invariant

pub invariant_of-self-in-Directory-Mq : goal.invariant_of-self-in-Directory-Mq
invariant_of-self-in-Directory-Mq c =
    let inside = c.self.inside in
    rw c.give_facts.ensures (named_stands inside.queues inside.semaphores _ inside.semaphores inside.descriptions.rows inside.objects (record { once = c.self.invariant.queue_names; names = λ n k. k }) (names_same inside.semaphores c.self.invariant.semaphore_names) c.self.invariant)

pub invariant_of-self-in-Directory-Sem : goal.invariant_of-self-in-Directory-Sem
invariant_of-self-in-Directory-Sem c =
    let inside = c.self.inside in
    rw c.give_facts-in-Directory-Sem.ensures (named_stands inside.queues inside.semaphores inside.queues _ inside.descriptions.rows inside.objects (names_same inside.queues c.self.invariant.queue_names) (record { once = c.self.invariant.semaphore_names; names = λ n k. k }) c.self.invariant)

pub returns-in-Some : goal.returns-in-Some
returns-in-Some c = rw (c.in-Object.is, ← c.self.view_is) (seen c.self.inside c.self.inside.sessions _ _ (with_facts_rows (goal.at.returns-in-Some c).In-Some))

pub returns-in_default : goal.returns-in_default
returns-in_default c = rw (c.in-Object.is, ← c.self.view_is) (seen c.self.inside c.self.inside.sessions _ _ (row_absent c.in-Object.object (with_facts c.args.facts) c.self.inside.objects _ c.self.invariant.counted (sym c.get_mut.ensures.value ∙ ap option_copied_mut c.in_default.is) c.get_mut.follows.holds-at-none))
