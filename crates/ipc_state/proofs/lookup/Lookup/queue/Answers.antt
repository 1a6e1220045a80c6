use Rattle.std.proofs.Common.{ap, ◌∙◌}
use Rattle.std.specs.Prelude.{option_and_then}
use Rattle.ipc_descr.specs.declared.row.Row.{Row}
use Rattle.ipc_tables.specs.declared.rows.ObjectRow.{ObjectRow}
use Rattle.ipc_tables.specs.Objects.{row_at, queue_in}
use Rattle.ipc_state.proofs.Looked.{queue_given}
use Rattle.ipc_state.proofs.lookup.Lookup.queue.Goals as goal

pub returns : goal.returns
returns c =
    let met = c.self.invariant in
    let given = met.of_given ∙ ap (option_and_then (λ (r : Row). row_at c.self.inside.tables.now.objects r.object)) met.of_row in
    rw (← c.self.view_is) (c.queue_in.ensures ∙ ap (option_and_then (λ (r : ObjectRow). queue_in r.body)) given ∙ queue_given _ _ _ _ met.core)
