use Rattle.std.proofs.Common.{◌≡◌, ℕ, List, None, refl, ◌∙◌, sym, ap, subst, filter}
use Rattle.ipc_descr.specs.declared.charges.Charge.{Charge}
use Rattle.ipc_tables.specs.contracts.tables.Tables.{the_view}
use Rattle.ipc_tables.specs.declared.rows.ObjectRow.{ObjectRow}
use Rattle.ipc_tables.specs.TablesView.{TablesView, is_kept}
use Rattle.ipc_tables.specs.Charging.{Covered, settled}
use Rattle.ipc_tables.specs.Standing.{rows_in}
use Rattle.ipc_tables.specs.Steps.{living, with_living, after_unlink}
use Rattle.ipc_tables.proofs.Releasing.{none_held}
use Rattle.ipc_tables.proofs.Touching.{Unbound, unbound, unlink_keeps, own_held, all_filtered}
use Rattle.ipc_tables.proofs.StandingLemmas.{settled_stands}
use Rattle.ipc_tables.proofs.tables.Tables.unlink.Goals as goal
use Rattle.ipc_tables.proofs.tables.Tables.unlink.Goals.{After-unbind-object}

gone : (c : After-unbind-object) → Unbound c.unbind-object.result c.self.inside.queues c.self.inside.semaphores c.unbind-object.new.queues c.unbind-object.new.semaphores
gone c = unbound c.args.family c.args.name.now (the_view c.self.inside) c.unbind-object.result c.unbind-object.new.queues c.unbind-object.new.semaphores (c.unbind-object.ensures.rest (the_view c.self.inside)) (c.unbind-object.ensures.object (the_view c.self.inside)) c.self.invariant.queue_names c.self.invariant.semaphore_names

pub remove_dead-requires-clause-others : goal.remove_dead-requires-clause-others
remove_dead-requires-clause-others c = unlink_keeps c.self.inside.queues c.self.inside.semaphores c.unbind-object.new.queues c.unbind-object.new.semaphores c.unbind-object.result c.self.inside.descriptions.rows (rows_in c.self.inside.objects) (gone (goal.at.remove_dead-requires-clause-others c).After-unbind-object) c.self.invariant.kept

pub remove_dead-requires-clause-covered : goal.remove_dead-requires-clause-covered
remove_dead-requires-clause-covered c = subst (λ (t : TablesView). Covered t.charges t.objects) (sym c.self.view_is) c.requires

-- no description is closed, so all registrations are held still
left : (c : After-unbind-object) (objects : List ObjectRow) → objects ≡ filter (is_kept c.unbind-object.new.queues c.unbind-object.new.semaphores c.self.inside.descriptions.rows) (rows_in c.self.inside.objects) → objects ≡ living c.unbind-object.new.queues c.unbind-object.new.semaphores c.self.inside.descriptions.rows (rows_in c.self.inside.objects)
left c objects is =
    let keep = is_kept c.unbind-object.new.queues c.unbind-object.new.semaphores c.self.inside.descriptions.rows in
    is ∙ none_held c.self.inside.descriptions.rows (filter keep (rows_in c.self.inside.objects)) (all_filtered _ keep (rows_in c.self.inside.objects) (own_held None c.self.inside.descriptions.rows (rows_in c.self.inside.objects) c.self.invariant.own))

pub invariant_of-self : goal.invariant_of-self
invariant_of-self c =
    let here = (goal.at.invariant_of-self c).After-unbind-object in
    let is = gone here in
    settled_stands c.unbind-object.new.queues c.unbind-object.new.semaphores c.self.inside.descriptions.rows c.self.inside.descriptions.rows c.self.inside.objects c.remove_dead.new.self is.queue_names is.semaphore_names (λ d row e. e) c.remove_dead.ensures.counted (left here _ c.remove_dead.ensures.rows) c.self.invariant.own

settled_is : (t : TablesView) (objects : List ObjectRow) (created : ℕ) (charges : List Charge) → objects ≡ living t.queues t.semaphores t.descriptions.rows t.objects → created ≡ t.created → charges ≡ settled (is_kept t.queues t.semaphores t.descriptions.rows) t.objects t.charges → record t { objects = objects; created = created; charges = charges } ≡ with_living t
settled_is t objects created charges one two three = rw (one, two, three) refl

pub returns : goal.returns
returns c =
    let here = (goal.at.returns c).After-unbind-object in
    let inside = the_view c.self.inside in
    settled_is (record inside { queues = c.unbind-object.new.queues; semaphores = c.unbind-object.new.semaphores }) _ _ _ (left here _ c.remove_dead.ensures.rows) c.remove_dead.ensures.created c.remove_dead.ensures.charges
    ∙ ap with_living (c.unbind-object.ensures.rest inside)
    ∙ ap (λ (t : TablesView). after_unlink t c.args.family c.args.name.now) c.self.view_is
