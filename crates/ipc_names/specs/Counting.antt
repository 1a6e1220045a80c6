-- How the tables of a directory stand for its bindings.
use Rattle.std.specs.Prelude.{◌≡◌, Bool, ℕ, ◌==◌, List, map, count_by}
use Rattle.std.specs.BTreeMap.{BTreeMap}
use Rattle.ipc_terms.specs.Counting.{count_of}
use Rattle.ipc_terms.specs.declared.binding.Binding.{Binding}

-- the bindings, from the entries of the map that leads from a name to its object
abbrev pub bindings_of : List (List ℕ × ℕ) → List Binding
bindings_of entries = map (λ entry. record { name = entry.0; object = entry.1 }) entries

-- whether the binding is of object o
abbrev pub is_to : ℕ → Binding → Bool
is_to o binding = binding.object == o

-- the count of each object is how many names it has
abbrev pub Counts : BTreeMap ℕ ℕ → List Binding → Type 0
Counts counts bindings = (o : ℕ) → count_of counts o ≡ count_by (is_to o) bindings
