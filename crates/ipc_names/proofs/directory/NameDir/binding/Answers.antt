use Rattle.std.proofs.Common.{◌≡◌, ℕ, List, slice_get, sym, ap, ◌∙◌}
use Rattle.std.specs.Option.{option_map}
use Rattle.std.proofs.lemmas.Option.{slice_get-map}
use Rattle.ipc_terms.specs.declared.binding.Binding.{Binding}
use Rattle.ipc_names.proofs.directory.NameDir.binding.Goals as goal

-- the binding of an entry
abbrev bound_by : List ℕ × ℕ → Binding
bound_by entry = record { name = entry.0; object = entry.1 }

pub returns : goal.returns
returns c = rw (← c.self.view_is) (ap (option_map bound_by) (c.in_ok-name.ensures.entry ∙ ap (λ es. slice_get es c.args.index) c.as_slice.ensures.entries) ∙ sym (slice_get-map bound_by c.self.inside.objects.entries c.args.index))
