use Rattle.std.proofs.Common.{rules, ◌≡◌, ℕ, ◌+◌, ◌-◌, ◌≤◌, cond, take, List, [], ◌∷◌, ◌++◌, Option, None, is_some, refl, sym, ap, ◌∙◌, arith, length, count_by}
use Rattle.std.proofs.lemmas.List.{length_push}
use Rattle.std.proofs.Math.Seq.{take-append_seam}
use Rattle.std.proofs.lemmas.List.Sums.{count_by-le-length}
use Rattle.ipc_terms.specs.declared.call.Attributes.{Attributes}
use Rattle.ipc_terms.specs.declared.facts.Facts.{Facts}
use Rattle.ipc_terms.specs.declared.object.Kind.{Kind}
use Rattle.ipc_terms.specs.declared.object.Kind.TheVariants.{Queue as QueueKind, Semaphore as SemaphoreKind}
use Rattle.ipc_terms.specs.declared.object.Object.{Object}
use Rattle.ipc_descr.specs.declared.charges.Charge.{Charge}
use Rattle.ipc_descr.specs.Charges.{with_added}
use Rattle.ipc_descr.specs.declared.row.Row.{Row}
use Rattle.ipc_descr.specs.Descriptions.{Descriptions, with_open}
use Rattle.ipc_tables.specs.contracts.tables.Tables.{the_view}
use Rattle.ipc_tables.specs.declared.objects.Objects.{Objects}
use Rattle.ipc_tables.specs.declared.rows.Body.{Body}
use Rattle.ipc_tables.specs.declared.rows.ObjectRow.{ObjectRow}
use Rattle.ipc_tables.specs.declared.tables.Grant.{Grant}
use Rattle.ipc_tables.specs.Objects.{is_queue, queue_in, registered_in, bytes_taken, new_body, new_row}
use Rattle.ipc_tables.specs.TablesView.{TablesView}
use Rattle.ipc_tables.specs.Charging.{charged_with}
use Rattle.ipc_tables.specs.Standing.{rows_in, rows_of}
use Rattle.ipc_tables.specs.Steps.{with_object}
use Rattle.ipc_tables.proofs.Numbering.{rows_last, count_below}
use Rattle.ipc_tables.proofs.StandingLemmas.{Adds, added_stands, same_stands}
use Rattle.ipc_tables.proofs.tables.Tables.add.Goals as goal
use Rattle.ipc_tables.proofs.tables.Tables.add.Goals.{After-open-opened, After-undo_push, in-Queue, in_default}

-- ---- what stands in a new object

new_unregistered : (kind : Kind) → registered_in (new_body kind) ≡ None
new_unregistered (QueueKind attributes) = refl
new_unregistered (SemaphoreKind value) = refl

-- it is a queue where its kind is one
one_more : (n : ℕ) (kind : Kind) (body : Body) (attributes : Attributes) → kind ≡ QueueKind attributes → body ≡ new_body kind → n + 1 ≡ n + cond (is_some (queue_in body)) 1 0
one_more n kind body attributes is e = ap (λ b. n + cond (is_some (queue_in b)) 1 0) (sym (e ∙ ap new_body is))

none_more : (n : ℕ) (kind : Kind) (body : Body) → ((attributes : Attributes) → kind ≡ QueueKind attributes → ⊥) → body ≡ new_body kind → n ≡ n + cond (is_some (queue_in body)) 1 0
none_more n (QueueKind attributes) body apart e = absurd (apart attributes refl)
none_more n (SemaphoreKind value) body apart e = rw e (omega arith)

charged_queue : (charges : List Charge) (u bytes : ℕ) (kind : Kind) (attributes : Attributes) → kind ≡ QueueKind attributes → bytes ≡ bytes_taken kind → with_added charges u bytes ≡ charged_with charges u kind
charged_queue charges u bytes kind attributes is e = ap (with_added charges u) (e ∙ ap bytes_taken is) ∙ ap (charged_with charges u) (sym is)

charged_none : (charges : List Charge) (u : ℕ) (kind : Kind) → ((attributes : Attributes) → kind ≡ QueueKind attributes → ⊥) → charges ≡ charged_with charges u kind
charged_none charges u (QueueKind attributes) apart = absurd (apart attributes refl)
charged_none charges u (SemaphoreKind value) apart = refl

with_object_is : (t : TablesView) (grant : Grant) (object : Object) (facts : Facts) (rows : List ObjectRow) (created : ℕ) (descriptions : Descriptions) (charges : List Charge) → rows ≡ t.objects ++ new_row t.created object facts ∷ [] → created ≡ t.created + 1 → descriptions ≡ with_open t.descriptions grant.session t.created grant.access grant.nonblock → charges ≡ charged_with t.charges object.creator.0 object.kind → record t { objects = rows; created = created; descriptions = descriptions; charges = charges } ≡ with_object t grant object facts
with_object_is t grant object facts rows created descriptions charges one two three four = rw (one, two, three, four) refl

-- ---- the row that was put in

put : (c : After-open-opened) → ObjectRow
put c = record { number = c.created-number.result; object = c.args.object; facts = c.args.facts; bytes = c.bytes_taken-bytes.result; body = c.new.result }

row_is : (c : After-open-opened) → put c ≡ new_row (length c.self.inside.objects.rows) c.args.object c.args.facts
unfolding put
row_is c = rw (c.created-number.ensures, c.bytes_taken-bytes.ensures, c.new.ensures) refl

undone : (slots : List (Option ObjectRow)) (slot : Option ObjectRow) → take (length (slots ++ slot ∷ []) - 1) (slots ++ slot ∷ []) ≡ slots
undone slots slot =
    let before : length (slots ++ slot ∷ []) - 1 ≡ length slots = omega (arith, length_push slots slot) in
    ap (λ n. take n (slots ++ slot ∷ [])) before ∙ take-append_seam slots (slot ∷ [])

-- where no description can be opened it is taken out again
taken_out : (c : After-undo_push) → c.undo_push.new.self ≡ c.self.inside.objects.rows
taken_out c = c.undo_push.ensures ∙ ap (λ (slots : List (Option ObjectRow)). take (length slots - 1) slots) c.in_ok-push.ensures.ok ∙ undone c.self.inside.objects.rows _

pub invariant_of-self-then-is_err : goal.invariant_of-self-then-is_err
invariant_of-self-then-is_err c =
    let inside = c.self.inside in
    let unopened : c.open-opened.new.self ≡ inside.descriptions = search rules in
    rw unopened (same_stands inside.queues inside.semaphores inside.descriptions.rows inside.objects _ (taken_out c) refl c.self.invariant)

pub returns-then-is_err-clause-err : goal.returns-then-is_err-clause-err
returns-then-is_err-clause-err c =
    let inside = c.self.inside in
    let unopened : c.open-opened.new.self ≡ inside.descriptions = search rules in
    ap (λ (d : Descriptions). record (the_view inside) { objects = rows_of c.undo_push.new.self; created = length c.undo_push.new.self; descriptions = d }) unopened ∙ ap (λ (slots : List (Option ObjectRow)). record (the_view inside) { objects = rows_of slots; created = length slots }) (taken_out c) ∙ c.self.view_is

-- there are no more queues than numbers
pub overflow_add-objects : goal.overflow_add-objects
overflow_add-objects c =
    let objects = c.self.inside.objects in
    let count = c.self.invariant.counted.counted in
    let few : count_by is_queue (rows_in objects) ≤ length (rows_in objects) = count_by-le-length is_queue (rows_in objects) in
    let below : length (rows_in objects) ≤ length objects.rows = count_below objects.rows in
    let created : length objects.rows ≡ c.args.self.now.created = ap (λ (t : TablesView). t.created) c.self.view_is in
    let room = c.requires.created in
    omega arith

opened : (c : After-open-opened) → Row
opened c = record { desc = record { 0 = c.self.inside.descriptions.opened }; session = c.args.grant.session; object = length c.self.inside.objects.rows; access = c.args.grant.access; nonblock = c.args.grant.nonblock }

adds : (c : After-open-opened) (after : Objects) → after.rows ≡ c.push.new.self → after.queue_count ≡ c.self.inside.objects.queue_count + cond (is_some (queue_in c.new.result)) 1 0 → Adds (put c) (opened c) c.self.inside.objects after
unfolding put opened
adds c after rows count = record {
  number = c.created-number.ensures;
  unregistered = ap registered_in c.new.ensures ∙ new_unregistered c.args.object.kind;
  gives = refl;
  slots = rows ∙ c.in_ok-push.ensures.ok;
  count = count;
}

inserted : (c : After-open-opened) → rows_of c.push.new.self ≡ rows_in c.self.inside.objects ++ new_row (length c.self.inside.objects.rows) c.args.object c.args.facts ∷ []
unfolding put
inserted c =
    let objects = c.self.inside.objects in
    ap rows_of c.in_ok-push.ensures.ok ∙ rows_last (put c) objects.rows ∙ ap (λ (row : ObjectRow). rows_in objects ++ row ∷ []) (row_is c)

more : (c : After-open-opened) → length c.push.new.self ≡ length c.self.inside.objects.rows + 1
more c = ap length c.in_ok-push.ensures.ok ∙ length_push c.self.inside.objects.rows _

-- the description that was opened gives it
open_is : (c : After-open-opened) → c.open-opened.new.self ≡ with_open c.self.inside.descriptions c.args.grant.session c.created-number.result c.args.grant.access c.args.grant.nonblock → c.open-opened.new.self ≡ with_open c.self.inside.descriptions c.args.grant.session (length c.self.inside.objects.rows) c.args.grant.access c.args.grant.nonblock
open_is c is = is ∙ ap (λ n. with_open c.self.inside.descriptions c.args.grant.session n c.args.grant.access c.args.grant.nonblock) c.created-number.ensures

pub invariant_of-self-2 : goal.invariant_of-self-2
unfolding opened
invariant_of-self-2 c =
    let here = (goal.at.invariant_of-self-2 c).After-open-opened in
    let inside = c.self.inside in
    let is = open_is here (search rules) in
    elim c.match-object.branch [
      | in-Queue w ↦ rw (w.self-inside-is, is) (added_stands inside.queues inside.semaphores inside.descriptions.rows (put here) (opened here) inside.objects _ (adds here _ refl (one_more inside.objects.queue_count c.args.object.kind c.new.result w.in-Queue.field-0 w.in-Queue.is c.new.ensures)) c.self.invariant)
      | in_default w ↦ rw (w.self-inside-is, is) (added_stands inside.queues inside.semaphores inside.descriptions.rows (put here) (opened here) inside.objects _ (adds here _ refl (none_more inside.objects.queue_count c.args.object.kind c.new.result w.in_default.not-Queue c.new.ensures)) c.self.invariant)
    ]

pub returns-clause-ok : goal.returns-clause-ok
returns-clause-ok c =
    let here = (goal.at.returns-clause-ok c).After-open-opened in
    let inside = c.self.inside in
    let is = open_is here (search rules) in
    rw (← c.self.view_is) (elim c.match-object.branch [
      | in-Queue w ↦ rw w.self-inside-is (with_object_is (the_view inside) c.args.grant c.args.object c.args.facts _ _ _ _ (inserted here) (more here) is (w.add.ensures ∙ charged_queue inside.objects.charges c.args.object.creator.0 c.bytes_taken-bytes.result c.args.object.kind w.in-Queue.field-0 w.in-Queue.is c.bytes_taken-bytes.ensures))
      | in_default w ↦ rw w.self-inside-is (with_object_is (the_view inside) c.args.grant c.args.object c.args.facts _ _ _ _ (inserted here) (more here) is (charged_none inside.objects.charges c.args.object.creator.0 c.args.object.kind w.in_default.not-Queue))
    ])
