use Rattle.std.proofs.Common.{◌∙◌, sym, ap}
use Rattle.std.specs.Prelude.{option_and_then}
use Rattle.std.specs.Option.{option_copied}
use Rattle.ipc_descr.specs.declared.row.Row.{Row}
use Rattle.ipc_tables.specs.declared.rows.ObjectRow.{ObjectRow}
use Rattle.ipc_tables.specs.Objects.{row_at, queue_in}
use Rattle.ipc_state.proofs.RegistrationTables.{unread_queue, unread_desc, unread_session, read_whole}
use Rattle.ipc_state.proofs.Looked.{queue_given, registration_meant}
use Rattle.ipc_state.proofs.lookup.Lookup.registration.Goals as goal

pub returns-in_err-queue_in : goal.returns-in_err-queue_in
returns-in_err-queue_in c =
    let met = c.self.invariant in
    let t = c.self.inside.tables.now.descriptions in
    let given = met.of_given ∙ ap (option_and_then (λ (r : Row). row_at c.self.inside.tables.now.objects r.object)) met.of_row in
    let queue = c.queue_in.ensures ∙ ap (option_and_then (λ (r : ObjectRow). queue_in r.body)) given ∙ queue_given _ _ _ _ met.core in
    let read = registration_meant _ _ t _ (option_copied c.queue_in.result) met.core.legal met.core.agrees.descriptions queue in
    rw (← c.self.view_is) (c.from_residual.ensures ∙ unread_queue t (option_copied c.queue_in.result) _ read (ap option_copied c.in_err-queue_in.was))

pub returns-in_err-desc : goal.returns-in_err-desc
returns-in_err-desc c =
    let met = c.self.invariant in
    let t = c.self.inside.tables.now.descriptions in
    let given = met.of_given ∙ ap (option_and_then (λ (r : Row). row_at c.self.inside.tables.now.objects r.object)) met.of_row in
    let queue = c.queue_in.ensures ∙ ap (option_and_then (λ (r : ObjectRow). queue_in r.body)) given ∙ queue_given _ _ _ _ met.core in
    let read = registration_meant _ _ t _ (option_copied c.queue_in.result) met.core.legal met.core.agrees.descriptions queue in
    rw (← c.self.view_is) (c.from_residual-in_err-desc.ensures ∙ unread_desc t (option_copied c.queue_in.result) c.in_ok-queue_in.field-0.now _ read (ap option_copied c.in_ok-queue_in.was) (sym c.registered.ensures ∙ c.in_err-desc.was))

pub returns-in_err-session : goal.returns-in_err-session
returns-in_err-session c =
    let met = c.self.invariant in
    let t = c.self.inside.tables.now.descriptions in
    let given = met.of_given ∙ ap (option_and_then (λ (r : Row). row_at c.self.inside.tables.now.objects r.object)) met.of_row in
    let queue = c.queue_in.ensures ∙ ap (option_and_then (λ (r : ObjectRow). queue_in r.body)) given ∙ queue_given _ _ _ _ met.core in
    let read = registration_meant _ _ t _ (option_copied c.queue_in.result) met.core.legal met.core.agrees.descriptions queue in
    rw (← c.self.view_is) (c.from_residual-in_err-session.ensures ∙ unread_session t (option_copied c.queue_in.result) c.in_ok-queue_in.field-0.now c.in_ok-desc.desc _ read (ap option_copied c.in_ok-queue_in.was) (sym c.registered.ensures ∙ c.in_ok-desc.was) (rw c.descriptions.ensures at (sym c.holder.ensures ∙ c.in_err-session.was)))

pub returns : goal.returns
returns c =
    let met = c.self.invariant in
    let t = c.self.inside.tables.now.descriptions in
    let given = met.of_given ∙ ap (option_and_then (λ (r : Row). row_at c.self.inside.tables.now.objects r.object)) met.of_row in
    let queue = c.queue_in.ensures ∙ ap (option_and_then (λ (r : ObjectRow). queue_in r.body)) given ∙ queue_given _ _ _ _ met.core in
    let read = registration_meant _ _ t _ (option_copied c.queue_in.result) met.core.legal met.core.agrees.descriptions queue in
    rw (← c.self.view_is) (read_whole t (option_copied c.queue_in.result) c.in_ok-queue_in.field-0.now c.in_ok-desc.desc c.in_ok-session.session _ read (ap option_copied c.in_ok-queue_in.was) (sym c.registered.ensures ∙ c.in_ok-desc.was) (rw c.descriptions.ensures at (sym c.holder.ensures ∙ c.in_ok-session.was)))
