use Rattle.std.proofs.Common.{◌∙◌, sym, ap}
use Rattle.ipc_names.specs.Directory.{object_named}
use Rattle.ipc_terms.specs.declared.ids.Family.{Family}
use Rattle.ipc_tables.specs.TablesView.{TablesView, directory_kept}
use Rattle.ipc_tables.proofs.StandingLemmas.{named_stands, names_bound, names_same}
use Rattle.ipc_tables.proofs.tables.Tables.bind.Goals as goal

pub invariant_of-self : goal.invariant_of-self
invariant_of-self c =
    let inside = c.self.inside in
    let unbound = ap (λ (t : TablesView). object_named t.queues.bindings c.args.name) c.self.view_is ∙ ap (λ (f : Family). object_named (directory_kept f c.args.self.now).bindings c.args.name) (sym c.in-Mq.is) ∙ c.requires in
    rw c.in_ok-bind-in-Mq.ensures.ok (named_stands inside.queues inside.semaphores _ inside.semaphores inside.descriptions.rows inside.objects (names_bound c.args.name c.args.object inside.queues c.self.invariant.queue_names unbound) (names_same inside.semaphores c.self.invariant.semaphore_names) c.self.invariant)

pub invariant_of-self-in-Continue-branch-2 : goal.invariant_of-self-in-Continue-branch-2
invariant_of-self-in-Continue-branch-2 c =
    let inside = c.self.inside in
    let unbound = ap (λ (t : TablesView). object_named t.semaphores.bindings c.args.name) c.self.view_is ∙ ap (λ (f : Family). object_named (directory_kept f c.args.self.now).bindings c.args.name) (sym c.in-Sem.is) ∙ c.requires in
    rw c.in_ok-bind-in-Sem.ensures.ok (named_stands inside.queues inside.semaphores inside.queues _ inside.descriptions.rows inside.objects (names_same inside.queues c.self.invariant.queue_names) (names_bound c.args.name c.args.object inside.semaphores c.self.invariant.semaphore_names unbound) c.self.invariant)
