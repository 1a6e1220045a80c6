-- A directory: the names of a family that are bound, in the order of binding, with its owner, group and mode.
use Rattle.std.specs.Prelude.{Bool, ℕ, ◌==◌, not, List, [], map, find, filter, Option, Some, None, if◌then◌else◌}
use Rattle.std.specs.Option.{option_map}
use Rattle.std.specs.List.{list_any}
use Rattle.ipc_terms.specs.Names.{same_name, has_name_form, is_long_name}
use Rattle.ipc_terms.specs.declared.binding.Binding.{Binding}
use Rattle.ipc_terms.specs.declared.facts.Facts.{Facts}
use Rattle.ipc_terms.specs.declared.ids.Family.{Family}
use Rattle.ipc_terms.specs.declared.rule.Rule.{Rule}
use Rattle.ipc_terms.specs.declared.rule.Rule.TheVariants.{NameForm, NameLong}

pub record Directory : Type 0 where
  pub family : Family
  pub bindings : List Binding
  pub facts : Facts

-- no names; user 0, group 0 and octal 1777
abbrev pub first_directory : Family → Directory
first_directory family = record { family = family; bindings = []; facts = record { owner = record { 0 = 0 }; group = record { 0 = 0 }; mode = record { 0 = 1023 } } }

-- the object of the binding of the name
abbrev pub object_named : List Binding → List ℕ → Option ℕ
object_named bindings name = option_map (λ b. b.object) (find (λ b. same_name b.name name) bindings)

-- all bindings but that of the name
abbrev pub without_name : List Binding → List ℕ → List Binding
without_name bindings name = filter (λ b. not (same_name b.name name)) bindings

-- whether a name is bound to the object
abbrev pub names_object : List Binding → ℕ → Bool
names_object bindings object = list_any (λ b. b.object == object) bindings

-- the names that are bound, in order
abbrev pub bound_names : List Binding → List (List ℕ)
bound_names bindings = map (λ b. b.name) bindings

-- why this is no name of the family: its form is looked at first, and then its length
abbrev pub name_fault : Family → List ℕ → Option Rule
name_fault family name =
    if not (has_name_form name) then Some NameForm
    else (if is_long_name family name then Some NameLong else None)
