use Rattle.std.proofs.Common.{ℕ, ap, eqb, ◌∙◌}
use Rattle.std.specs.Prelude.{option_and_then}
use Rattle.ipc_sem.specs.Counters.{Counter}
use Rattle.ipc_descr.specs.declared.row.Row.{Row}
use Rattle.ipc_tables.specs.declared.rows.ObjectRow.{ObjectRow}
use Rattle.ipc_tables.specs.Objects.{row_at, semaphore_in}
use Rattle.ipc_policy.specs.Decides.Rules.{is_some_and}
use Rattle.ipc_state.proofs.Looked.{semaphore_given, value_meant}
use Rattle.ipc_state.proofs.lookup.Lookup.is_zero.Goals as goal

pub returns : goal.returns
returns c =
    let met = c.self.invariant in
    let given = met.of_given ∙ ap (option_and_then (λ (r : Row). row_at c.self.inside.tables.now.objects r.object)) met.of_row in
    let semaphore = c.semaphore_in.ensures ∙ ap (option_and_then (λ (r : ObjectRow). semaphore_in r.body)) given ∙ semaphore_given _ _ _ _ met.core in
    rw (← c.self.view_is) (c.has_value.ensures ∙ ap (is_some_and (λ (q : Counter). (λ (n : ℕ). eqb n 0) q.value)) semaphore ∙ value_meant _ _ _ (λ (n : ℕ). eqb n 0) met.core.legal)
