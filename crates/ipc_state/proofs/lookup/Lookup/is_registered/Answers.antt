use Rattle.std.proofs.Common.{ap, is_some, ◌∙◌}
use Rattle.std.specs.Prelude.{option_and_then}
use Rattle.ipc_queue.specs.Tickets.{Tickets}
use Rattle.ipc_descr.specs.declared.row.Row.{Row}
use Rattle.ipc_tables.specs.declared.rows.ObjectRow.{ObjectRow}
use Rattle.ipc_tables.specs.Objects.{row_at, queue_in}
use Rattle.ipc_policy.specs.Decides.Rules.{is_some_and}
use Rattle.ipc_state.proofs.Looked.{queue_given, registered_meant}
use Rattle.ipc_state.proofs.lookup.Lookup.is_registered.Goals as goal

pub returns : goal.returns
returns c =
    let met = c.self.invariant in
    let given = met.of_given ∙ ap (option_and_then (λ (r : Row). row_at c.self.inside.tables.now.objects r.object)) met.of_row in
    let queue = c.queue_in.ensures ∙ ap (option_and_then (λ (r : ObjectRow). queue_in r.body)) given ∙ queue_given _ _ _ _ met.core in
    rw (← c.self.view_is) (c.has_registration.ensures ∙ ap (is_some_and (λ (q : Tickets). is_some q.registered)) queue ∙ registered_meant _ _ _ met.core.legal)
