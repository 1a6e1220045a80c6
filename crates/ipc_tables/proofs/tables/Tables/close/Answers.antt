use Rattle.std.proofs.Common.{◌≡◌, ℕ, Some, ◌∙◌, sym, ap, subst, map, find}
use Rattle.std.specs.List.{AllByRecursion}
use Rattle.ipc_descr.specs.declared.row.Row.{Row}
use Rattle.ipc_descr.specs.Descriptions.{Descriptions, is_desc, without_desc}
use Rattle.ipc_tables.specs.Objects.{with_held}
use Rattle.ipc_tables.specs.TablesView.{TablesView, is_kept}
use Rattle.ipc_tables.specs.Charging.{Covered}
use Rattle.ipc_tables.specs.Standing.{rows_in}
use Rattle.ipc_tables.proofs.Touching.{TakenRow, stays_open, all_filtered, close_takes, close_keeps, others_held, found_before}
use Rattle.ipc_tables.proofs.StandingLemmas.{settled_stands}
use Rattle.ipc_tables.proofs.tables.Tables.close.Goals as goal
use Rattle.ipc_tables.proofs.tables.Tables.close.Goals.{After-close-object}

-- what is left of the descriptions, and what those that are gone gave
left : (c : After-close-object) → c.close-object.new.self.rows ≡ without_desc c.self.inside.descriptions.rows c.args.sid.0 c.args.desc.0
left c = ap (λ (t : Descriptions). t.rows) c.close-object.ensures.rest

taken : (c : After-close-object) → AllByRecursion (TakenRow c.close-object.result (stays_open c.args.sid.0 c.args.desc.0)) c.self.inside.descriptions.rows
taken c = close_takes c.args.sid.0 c.args.desc.0 0 _ c.close-object.result c.self.inside.descriptions.rows c.opened-opened.ensures.rise c.close-object.ensures.object

pub remove_dead-requires-clause-others : goal.remove_dead-requires-clause-others
remove_dead-requires-clause-others c =
    let here = (goal.at.remove_dead-requires-clause-others c).After-close-object in
    rw (left here) (close_keeps c.self.inside.queues c.self.inside.semaphores c.close-object.result (stays_open c.args.sid.0 c.args.desc.0) c.self.inside.descriptions.rows (rows_in c.self.inside.objects) (taken here) c.self.invariant.kept)

pub remove_dead-requires-clause-covered : goal.remove_dead-requires-clause-covered
remove_dead-requires-clause-covered c = subst (λ (t : TablesView). Covered t.charges t.objects) (sym c.self.view_is) c.requires

pub release-requires-clause-others : goal.release-requires-clause-others
release-requires-clause-others c =
    let here = (goal.at.release-requires-clause-others c).After-close-object in
    rw (c.remove_dead.ensures.rows, left here) (all_filtered _ (is_kept c.self.inside.queues c.self.inside.semaphores (without_desc c.self.inside.descriptions.rows c.args.sid.0 c.args.desc.0)) (rows_in c.self.inside.objects) (others_held c.close-object.result (stays_open c.args.sid.0 c.args.desc.0) c.self.inside.descriptions.rows (rows_in c.self.inside.objects) (taken here) c.self.invariant.own))

pub invariant_of-self : goal.invariant_of-self
invariant_of-self c =
    let here = (goal.at.invariant_of-self c).After-close-object in
    let before = λ (d : ℕ) (row : Row) (e : find (is_desc d) c.close-object.new.self.rows ≡ Some row). found_before (stays_open c.args.sid.0 c.args.desc.0) d 0 _ row c.self.inside.descriptions.rows c.opened-opened.ensures.rise (ap (find (is_desc d)) (sym (left here)) ∙ e) in
    settled_stands c.self.inside.queues c.self.inside.semaphores c.close-object.new.self.rows c.self.inside.descriptions.rows c.self.inside.objects c.release.new.self c.self.invariant.queue_names c.self.invariant.semaphore_names before c.release.ensures.counted (c.release.ensures.rows ∙ ap (map (with_held c.close-object.new.self.rows)) c.remove_dead.ensures.rows) c.self.invariant.own
