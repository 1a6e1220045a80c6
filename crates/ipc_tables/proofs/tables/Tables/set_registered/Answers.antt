use Rattle.std.proofs.Common.{◌≡◌, Bool, true, false, ℕ, find, Some, refl, sym, ap, subst, ◌∙◌}
use Rattle.std.specs.Option.{option_map}
use Rattle.ipc_terms.specs.Lists.{changed_first}
use Rattle.ipc_terms.specs.declared.ids.Desc.{Desc}
use Rattle.ipc_descr.specs.Descriptions.{is_desc}
use Rattle.ipc_tables.specs.contracts.tables.Tables.{the_view}
use Rattle.ipc_tables.specs.Objects.{is_number, with_queue}
use Rattle.ipc_tables.specs.Standing.{rows_in}
use Rattle.ipc_tables.specs.Steps.{after_notify}
use Rattle.ipc_tables.specs.TablesView.{TablesView}
use Rattle.ipc_tables.proofs.Parts.{part_absent, part_changed, queue_part}
use Rattle.ipc_tables.proofs.TableChanges.{IsWritten, seen, seen_written, written, written_stands}
use Rattle.ipc_tables.proofs.StandingLemmas.{registered_by, keeps_registered}
use Rattle.ipc_tables.proofs.tables.Tables.set_registered.Goals as goal
use Rattle.ipc_tables.proofs.tables.Tables.set_registered.Goals.{Joined-on, then-on, else-on}

after_notify_is : (t : TablesView) (o : ℕ) (desc : Desc) (on : Bool) → record t { objects = changed_first (is_number o) (with_queue (registered_by desc on)) t.objects } ≡ after_notify t o desc on
after_notify_is t o desc true = refl
after_notify_is t o desc false = refl

registered_rows : (c : Joined-on) → IsWritten c.self.inside c.if-on.self-inside (changed_first (is_number c.args.object) (with_queue (registered_by c.args.desc c.args.on)) (rows_in c.self.inside.objects))
registered_rows c =
    let change = registered_by c.args.desc in
    let x = c.in-Some.queue in
    elim c.if-on.branch [
      | then-on w ↦ written c.self.inside _ _ _ w.self-inside-is (part_changed queue_part c.args.object c.self.inside.objects _ c.queue_mut.result c.queue_mut.ensures.value (change c.args.on) x w.register.new.self c.in-Some.is (w.register.ensures.rest ∙ ap (λ b. change b x.now) (sym w.if-on.true)) (c.queue_mut.follows.holds w.register.new.self))
      | else-on w ↦ written c.self.inside _ _ _ w.self-inside-is (part_changed queue_part c.args.object c.self.inside.objects _ c.queue_mut.result c.queue_mut.ensures.value (change c.args.on) x w.unregister.new.self c.in-Some.is (w.unregister.ensures ∙ ap (λ b. change b x.now) (sym w.if-on.false)) (c.queue_mut.follows.holds w.unregister.new.self))
    ]

pub invariant_of-self-2 : goal.invariant_of-self-2
invariant_of-self-2 c =
    let inside = c.self.inside in
    let gives = λ (on : c.args.on ≡ true). subst (λ (t : TablesView). option_map (λ row. row.object) (find (is_desc c.args.desc.0) t.descriptions.rows) ≡ Some c.args.object) (sym c.self.view_is) (c.requires on) in
    written_stands inside _ c.args.object (with_queue (registered_by c.args.desc c.args.on)) (keeps_registered inside.descriptions.rows c.args.object c.args.desc c.args.on gives) (registered_rows c) c.self.invariant

pub returns : goal.returns
returns c = rw (← c.self.view_is) (seen_written c.self.inside _ _ (registered_rows c) ∙ after_notify_is (the_view c.self.inside) c.args.object c.args.desc c.args.on)

pub returns-in_default : goal.returns-in_default
returns-in_default c =
    let absent = part_absent queue_part c.args.object c.self.inside.objects _ c.queue_mut.result c.queue_mut.ensures.value (registered_by c.args.desc c.args.on) c.in_default.is c.queue_mut.follows.holds-at-none in
    rw (← c.self.view_is) (seen c.self.inside c.self.inside.sessions _ _ absent ∙ after_notify_is (the_view c.self.inside) c.args.object c.args.desc c.args.on)
