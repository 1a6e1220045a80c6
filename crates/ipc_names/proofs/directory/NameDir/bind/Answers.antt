use Rattle.std.proofs.Common.{◌≡◌, ◌∙◌, ◌++◌, [], ◌∷◌, OnOk, ap, subst}
use Rattle.std.specs.Cmp.Lexicographic.{pointwise}
use Rattle.std.specs.Prelude.{nat_eq}
use Rattle.indexmap.proofs.CallerLemmas.{insert_entry-new}
use Rattle.indexmap.specs.IndexMap.{insert_entry}
use Rattle.ipc_names.specs.Counting.{bindings_of}
use Rattle.ipc_names.specs.Directory.{object_named}
use Rattle.ipc_names.proofs.DirectoryLemmas.{one_fits, absent, pushed, counts_more}
use Rattle.ipc_names.proofs.directory.NameDir.bind.Goals as goal

pub raise-requires : goal.raise-requires
raise-requires c = one_fits c.self.inside.counts c.self.inside.objects.entries c.args.object c.len-names.result c.self.invariant c.len-names.ensures.len c.len-names.ensures.small

done : (c : goal.After-unwrap) → bindings_of c.insert.new.self.entries ≡ bindings_of c.self.inside.objects.entries ++ record { name = c.args.name; object = c.args.object } ∷ []
done c =
    let same = c.reserve.ensures.entries in
    let inserted = subst (λ r. OnOk r (c.insert.new.self.entries ≡ insert_entry (λ x y. pointwise nat_eq x y) c.reserve.new.self.entries c.args.name c.args.object)) c.unwrap.ensures c.insert.ensures.entries in
    let none = ap (λ d. object_named d.bindings c.args.name) c.self.view_is ∙ c.requires in
    let new = insert_entry-new (λ x y. pointwise nat_eq x y) c.reserve.new.self c.args.name c.args.object (absent c.args.name c.self.inside.objects.entries c.reserve.new.self.entries same none) in
    pushed c.args.name c.args.object c.self.inside.objects.entries c.reserve.new.self.entries c.insert.new.self.entries same (inserted ∙ new)

pub invariant_of-self-2 : goal.invariant_of-self-2
invariant_of-self-2 c = rw (done c) (counts_more c.self.inside.counts c.raise.new.counts (bindings_of c.self.inside.objects.entries) _ c.self.invariant c.in_ok-raise.ensures.ok)

pub returns-clause-ok : goal.returns-clause-ok
returns-clause-ok c = rw (← c.self.view_is) (ap (λ bindings. record { family = c.self.inside.family; bindings = bindings; facts = c.self.inside.facts }) (done c))
