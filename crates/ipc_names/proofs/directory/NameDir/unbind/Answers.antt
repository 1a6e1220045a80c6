use Rattle.std.proofs.Common.{◌∙◌, sym, ap}
use Rattle.ipc_names.specs.Counting.{bindings_of}
use Rattle.ipc_names.proofs.DirectoryLemmas.{named, stays, removed, counts_less}
use Rattle.ipc_names.proofs.directory.NameDir.unbind.Goals as goal

pub returns-in_err-object-clause-object : goal.returns-in_err-object-clause-object
returns-in_err-object-clause-object c = rw (← c.self.view_is) (c.from_residual.ensures ∙ c.in_err-object.ensures.value ∙ named c.args.name.now c.self.inside.objects.entries)

pub returns-in_err-object-clause-rest : goal.returns-in_err-object-clause-rest
returns-in_err-object-clause-rest c =
    rw (← c.self.view_is) (ap (λ bindings. record { family = c.self.inside.family; bindings = bindings; facts = c.self.inside.facts })
    (ap bindings_of c.in_err-object.ensures.unchanged ∙ sym (stays c.args.name.now c.self.inside.objects.entries (sym c.in_err-object.ensures.value))))

pub invariant_of-self-2 : goal.invariant_of-self-2
invariant_of-self-2 c = rw c.in_ok-object.ensures.entries (counts_less c.args.name.now c.self.inside.counts c.lower.new.counts c.self.inside.objects.entries c.in_ok-object.object c.self.invariant (sym c.in_ok-object.ensures.value) c.lower.ensures)

pub returns-clause-object : goal.returns-clause-object
returns-clause-object c = rw (← c.self.view_is) (c.in_ok-object.ensures.value ∙ named c.args.name.now c.self.inside.objects.entries)

pub returns-clause-rest : goal.returns-clause-rest
returns-clause-rest c =
    let e = c.in_ok-object.ensures in
    rw (← c.self.view_is) (ap (λ bindings. record { family = c.self.inside.family; bindings = bindings; facts = c.self.inside.facts })
    (removed c.args.name.now c.self.inside.objects.entries _ e.entries e.updates.1))
