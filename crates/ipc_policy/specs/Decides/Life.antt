-- Which names stand for which objects, in order, and which objects are alive.
use Rattle.std.specs.Prelude.{Bool, false, ℕ, ◌||◌, ◌==◌, List, map, Option, Some, None, is_some, if◌then◌else◌}
use Rattle.ipc_terms.specs.Names.{same_family}
use Rattle.ipc_terms.specs.declared.ids.Family.{Family}
use Rattle.ipc_terms.specs.declared.binding.Binding.{Binding}
use Rattle.ipc_policy.specs.declared.config.Held.{Held}
use Rattle.ipc_policy.specs.Decides.History.{History, unended, any_below, gathered_below}
use Rattle.ipc_policy.specs.Decides.Names.{Opening, unlinks, creations}
use Rattle.ipc_policy.specs.Decides.Objects.{creation_of}
use Rattle.ipc_policy.specs.Decides.Descriptions.{opens, held}

-- the open that created object o, until the name that it bound is unlinked
unfoldable pub named : History → ℕ → Option Opening
named h o = unended (creation_of o) (λ asked e before. unlinks asked.family asked.name e) h

-- the name of object o, if it has one and is of the family
abbrev pub binding_of : Family → ℕ → Option Opening → Option Binding
binding_of family o None = None
binding_of family o (Some asked) = if same_family asked.family family then Some (record { name = asked.name; object = o }) else None

-- the names of the family that are bound, each with its object, in the order of the objects' numbers
unfoldable pub bindings : History → Family → List Binding
bindings h family = gathered_below (λ o. binding_of family o (named h o)) (creations h)

-- the names of the family that are bound, in the order in which they were created
unfoldable pub names : History → Family → List (List ℕ)
names h family = map (λ b. b.name) (bindings h family)

-- something is held, and it gives object o
abbrev pub gives_object : ℕ → Option Held → Bool
gives_object o None = false
gives_object o (Some x) = x.object == o

-- a name is bound to the object, or a description that is held gives it
unfoldable pub alive : History → ℕ → Bool
alive h o = is_some (named h o) || any_below (λ d. gives_object o (held h d)) (opens h)
