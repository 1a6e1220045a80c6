use Rattle.std.proofs.Common.{refl, sym, ap, ◌∙◌}
use Rattle.std.specs.Option.{option_copied_mut}
use Rattle.ipc_tables.specs.declared.rows.ObjectRow.{ObjectRow}
use Rattle.ipc_tables.specs.declared.rows.Body.TheVariants.{Queue as QueueBody}
use Rattle.ipc_tables.proofs.Parts.{part_set, part_there, queue_part, where_lent}
use Rattle.ipc_tables.proofs.RowChanges.{slots_same, row_same, sets_row}
use Rattle.ipc_tables.proofs.objects.Objects.queue_mut.Goals as goal

pub returns-in_err-self : goal.returns-in_err-self
returns-in_err-self c =
    let none = sym c.get_mut.ensures.value ∙ ap option_copied_mut c.in_err-self.was in
    rw c.from_residual.ensures ((refl, (λ w. tt), slots_same c.args.self.now _ c.requires c.get_mut.follows.holds-at-none), record { writes_back = tt; value = sym (part_there queue_part c.args.object c.args.self.now _ c.requires none) })

pub returns : goal.returns
returns c =
    let lent = c.in_ok-self.field-0 in
    let set = λ (next : ObjectRow). sets_row c.args.object lent next c.get_mut.result _ _ c.get_mut.ensures.value c.in_ok-self.was (c.get_mut.follows.holds next) in (
      (refl, (λ w. where_lent c.queue_mut.result _ c.queue_mut.ensures.value (λ q is. part_set queue_part c.args.object c.args.self.now lent.now _ q w c.requires is (set (record lent.now { body = QueueBody w })))), row_same c.args.object lent.now c.args.self.now _ c.requires (set lent.now)),
      record { writes_back = tt; value = c.queue_mut.ensures.value ∙ sym (part_there queue_part c.args.object c.args.self.now _ c.requires (set lent.now).there) },
    )
