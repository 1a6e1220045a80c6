use Rattle.std.proofs.Common.{rules, ◌≡◌, ℕ, ◌∙◌, ap, sym, refl, Bool, true, false, List, [], ◌∷◌, ◌++◌, cond, find, Some, None}
use Rattle.std.specs.Option.{option_map}
use Rattle.std.proofs.lemmas.Slice.Eq.{bytes_eq-Decides}
use Rattle.ipc_terms.specs.Names.{same_name}
use Rattle.ipc_terms.specs.declared.binding.Binding.{Binding}
use Rattle.ipc_terms.specs.declared.ids.Family.{Family}
use Rattle.ipc_terms.specs.declared.ids.Family.TheVariants.{Mq, Sem}
use Rattle.ipc_names.specs.Directory.{object_named, without_name}
use Rattle.ipc_tables.specs.TablesView.{TablesView, directory_kept}
use Rattle.ipc_tables.specs.Steps.{with_binding, without_binding}
use Rattle.ipc_tables.specs.contracts.tables.Tables.{the_view}
use Rattle.ipc_tables.proofs.StandingLemmas.{back_stands}
use Rattle.ipc_tables.proofs.tables.Tables.open_created.Goals as goal
use Rattle.ipc_tables.proofs.tables.Tables.open_created.Goals.{After-unbind}

-- a name that was bound last, and is unbound again
unbound_at : (name : List ℕ) (x : Binding) (xs : List Binding) (b : Bool) → option_map (λ (y : Binding). y.object) (cond b (Some x) (find (λ y. same_name y.name name) xs)) ≡ None → b ≡ false
unbound_at name x xs true e = absurd cc
unbound_at name x xs false e = refl

later_at : (name : List ℕ) (x : Binding) (xs : List Binding) (b : Bool) → b ≡ false → option_map (λ (y : Binding). y.object) (cond b (Some x) (find (λ y. same_name y.name name) xs)) ≡ None → object_named xs name ≡ None
later_at name x xs b k e = rw k at e

again : (name : List ℕ) (o : ℕ) (xs : List Binding) → object_named xs name ≡ None → without_name (xs ++ record { name = name; object = o } ∷ []) name ≡ xs
again name o [] e = rw ((bytes_eq-Decides name name).1 refl) refl
again name o (x ∷ xs) e =
    let other = unbound_at name x xs (same_name x.name name) e in
    rw other (ap (λ l. x ∷ l) (again name o xs (later_at name x xs (same_name x.name name) other e)))

-- so the tables are as they were
undone : (f : Family) (name : List ℕ) (o : ℕ) (t : TablesView) → object_named (directory_kept f t).bindings name ≡ None → without_binding f name (with_binding f name o t) ≡ t
undone Mq name o t e = ap (λ (l : List Binding). record t { queues = record t.queues { bindings = l } }) (again name o t.queues.bindings e)
undone Sem name o t e = ap (λ (l : List Binding). record t { semaphores = record t.semaphores { bindings = l } }) (again name o t.semaphores.bindings e)

back : (c : After-unbind) → record (the_view c.self-2.inside) { queues = c.unbind.new.queues; semaphores = c.unbind.new.semaphores } ≡ c.args.self.now
back c =
    let t = c.args.self.now in
    let family = c.family-family.result in
    let unopened : c.add.new.self ≡ c.bind.new.self = search rules in
    let unbound : object_named (directory_kept family t).bindings c.args.name.now ≡ None = ap (λ f. object_named (directory_kept f t).bindings c.args.name.now) c.family-family.ensures ∙ c.requires.unbound in
    let bound = c.in_ok-bind.ensures.ok ∙ ap (λ n. with_binding family n c.created-number.result t) c.in_ok-clone.ensures.cases in
    c.unbind.ensures.rest (the_view c.self-2.inside) ∙ ap (without_binding family c.args.name.now) (c.self-2.view_is ∙ unopened ∙ bound) ∙ undone family c.args.name.now c.created-number.result t unbound

pub invariant_of-self : goal.invariant_of-self
invariant_of-self c =
    let inside = c.self.inside in
    let same = back (goal.at.invariant_of-self c).After-unbind ∙ sym c.self.view_is in
    back_stands inside.queues inside.semaphores c.unbind.new.queues c.unbind.new.semaphores inside.descriptions.rows c.self-2.inside.descriptions.rows inside.objects c.self-2.inside.objects (ap (λ (t : TablesView). t.queues) same) (ap (λ (t : TablesView). t.semaphores) same) (ap (λ (t : TablesView). t.descriptions.rows) same) (ap (λ (t : TablesView). t.objects) same) c.self.invariant c.self-2.invariant.counted

pub returns-then-is_err-clause-err : goal.returns-then-is_err-clause-err
returns-then-is_err-clause-err c = back (goal.at.returns-then-is_err-clause-err c).After-unbind
