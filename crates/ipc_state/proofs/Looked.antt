-- What is looked up for an event is the policy's value.
use Rattle.std.proofs.Common.{◌≡◌, ℕ, Bool, ◌&&◌, eqb, length, Option, Some, None, is_some, refl, sym, ap, ◌∙◌}
use Rattle.std.specs.Prelude.{option_and_then}
use Rattle.std.specs.Option.{option_map}
use Rattle.ipc_terms.specs.declared.record.Event.{Event}
use Rattle.ipc_terms.specs.Events.{caller}
use Rattle.ipc_terms.specs.Objects.{as_semaphore}
use Rattle.ipc_names.specs.Directory.{object_named}
use Rattle.ipc_queue.specs.Tickets.{Tickets, is_full_of}
use Rattle.ipc_sem.specs.Counters.{Counter}
use Rattle.ipc_descr.specs.declared.row.Row.{Row}
use Rattle.ipc_descr.specs.Descriptions.{Descriptions, row_of}
use Rattle.ipc_tables.specs.declared.rows.ObjectRow.{ObjectRow}
use Rattle.ipc_tables.specs.Objects.{row_at, queue_in, queue_at, semaphore_in, semaphore_at}
use Rattle.ipc_tables.specs.TablesView.{TablesView, directory_kept}
use Rattle.ipc_policy.specs.declared.config.Config.{Config}
use Rattle.ipc_policy.specs.declared.config.Held.{Held}
use Rattle.ipc_policy.specs.declared.config.Registration.{Registration}
use Rattle.ipc_policy.specs.declared.asking.Described.{Described}
use Rattle.ipc_policy.specs.Decides.History.{History}
use Rattle.ipc_policy.specs.Decides.Names.{Naming, naming, is_bound, bound}
use Rattle.ipc_policy.specs.Decides.Objects.{object, facts}
use Rattle.ipc_policy.specs.Decides.Descriptions.{holds, is_nonblock}
use Rattle.ipc_policy.specs.Decides.Bodies.{value}
use Rattle.ipc_policy.specs.Decides.Registrations.{registered}
use Rattle.ipc_policy.specs.Decides.Verdict.{Legal}
use Rattle.ipc_policy.proofs.Histories.Known.{bound_iff}
use Rattle.ipc_policy.specs.Decides.Rules.{is_some_and, object_held, is_full, is_empty}
use Rattle.ipc_state.specs.Agrees.{IsCore, DescriptionsAgree, held_in, queue_meant}
use Rattle.ipc_state.proofs.Lookups.{mapped_some, found_is, facts_found, directory_agrees}
use Rattle.ipc_state.proofs.QueueLookups.{holds_is, number_is, object_is, queue_is, semaphore_is, held_full_is, held_empty_is, held_test_is, nonblock_is}
use Rattle.ipc_state.proofs.RegistrationTables.{kept_desc, read_by, registration_read}
use Rattle.ipc_state.specs.Meetings.{description, by_description, by_name, object_by, queue_held, semaphore_held}
use Rattle.ipc_state.specs.Rows.{row_meant, number_meant}

-- descriptions
pub number_held : (c : Config) (h : History) (t : TablesView) (e : Event) → IsCore c h t → option_map (λ (r : Row). r.object) (row_meant t.descriptions e) ≡ by_description (object_by h) e
number_held c h t e a = at (description e) where
  at : (w : Option Described) → option_map (λ (r : Row). r.object) (option_and_then (λ (x : Described). row_of t.descriptions.rows (caller e).0 x.desc.0) w) ≡ option_and_then (λ (x : Described). object_by h (caller e).0 x.desc.0) w
  at None = refl
  at (Some x) = number_is c h t (caller e).0 x.desc.0 a.agrees

pub held_meant : (c : Config) (h : History) (t : TablesView) (e : Event) → IsCore c h t → option_map held_in (row_meant t.descriptions e) ≡ by_description (holds h) e
held_meant c h t e a = at (description e) where
  at : (w : Option Described) → option_map held_in (option_and_then (λ (x : Described). row_of t.descriptions.rows (caller e).0 x.desc.0) w) ≡ option_and_then (λ (x : Described). holds h (caller e).0 x.desc.0) w
  at None = refl
  at (Some x) = holds_is c h t (caller e).0 x.desc.0 a.agrees

map_then : {X Y Z W : Type 0} (f : Z → W) (g : Y → Option Z) (k : X → Y) (w : Option X) → option_map f (option_and_then (λ x. g (k x)) w) ≡ option_and_then (λ y. option_map f (g y)) (option_map k w)
map_then f g k None = refl
map_then f g k (Some x) = refl

pub object_meant : (c : Config) (h : History) (t : TablesView) (e : Event) → IsCore c h t → option_map (λ (r : ObjectRow). r.object) (option_and_then (λ (r : Row). row_at t.objects r.object) (row_meant t.descriptions e)) ≡ by_description (object_held c h) e
object_meant c h t e a = at (description e) where
  at : (w : Option Described) → option_map (λ (r : ObjectRow). r.object) (option_and_then (λ (r : Row). row_at t.objects r.object) (option_and_then (λ (x : Described). row_of t.descriptions.rows (caller e).0 x.desc.0) w)) ≡ option_and_then (λ (x : Described). object_held c h (caller e).0 x.desc.0) w
  at None = refl
  at (Some x) =
      map_then (λ (r : ObjectRow). r.object) (row_at t.objects) (λ (r : Row). r.object) (row_of t.descriptions.rows (caller e).0 x.desc.0)
      ∙ ap (option_and_then (λ o. option_map (λ (r : ObjectRow). r.object) (row_at t.objects o))) (number_is c h t (caller e).0 x.desc.0 a.agrees)
      ∙ object_is c h t (caller e).0 x.desc.0 a.legal a.agrees

-- names
pub bound_meant : (c : Config) (h : History) (t : TablesView) (e : Event) → IsCore c h t → number_meant t e ≡ by_name (λ x. bound h x.family x.name) e
bound_meant c h t e a = at (naming e) where
  at : (w : Option Naming) → option_and_then (λ (x : Naming). object_named (directory_kept x.family t).bindings x.name) w ≡ option_and_then (λ (x : Naming). bound h x.family x.name) w
  at None = refl
  at (Some x) = found_is h x.family (directory_kept x.family t) x.name (directory_agrees c h t x.family a.agrees)

then_map : {X Y Z : Type 0} (f : Y → Z) (g : X → Option Y) (w : Option X) → option_map f (option_and_then g w) ≡ option_and_then (λ x. option_map f (g x)) w
then_map f g None = refl
then_map f g (Some x) = refl

facts_named : (c : Config) (h : History) (t : TablesView) (e : Event) → IsCore c h t → option_map (λ (r : ObjectRow). r.facts) (option_and_then (row_at t.objects) (by_name (λ x. bound h x.family x.name) e)) ≡ by_name (λ x. option_and_then (facts c h) (bound h x.family x.name)) e
facts_named c h t e a = at (naming e) where
  at : (w : Option Naming) → option_map (λ (r : ObjectRow). r.facts) (option_and_then (row_at t.objects) (option_and_then (λ (x : Naming). bound h x.family x.name) w)) ≡ option_and_then (λ (x : Naming). option_and_then (facts c h) (bound h x.family x.name)) w
  at None = refl
  at (Some x) =
      then_map (λ (r : ObjectRow). r.facts) (row_at t.objects) (bound h x.family x.name)
      ∙ facts_found c h t.objects t.created x.family x.name a.legal a.agrees.objects

pub facts_meant_by_name : (c : Config) (h : History) (t : TablesView) (e : Event) → IsCore c h t → option_map (λ (r : ObjectRow). r.facts) (option_and_then (row_at t.objects) (number_meant t e)) ≡ by_name (λ x. option_and_then (facts c h) (bound h x.family x.name)) e
facts_meant_by_name c h t e a =
    ap (λ w. option_map (λ (r : ObjectRow). r.facts) (option_and_then (row_at t.objects) w)) (bound_meant c h t e a)
    ∙ facts_named c h t e a

bound_there : (h : History) (w : Option Naming) → is_some (option_and_then (λ (x : Naming). bound h x.family x.name) w) ≡ is_some_and (λ (x : Naming). is_bound h x.family x.name) w
bound_there h None = refl
bound_there h (Some x) = sym (bound_iff h x.family x.name)

pub is_bound_meant : (c : Config) (h : History) (t : TablesView) (e : Event) → IsCore c h t → is_some (number_meant t e) ≡ is_some_and (λ (x : Naming). is_bound h x.family x.name) (naming e)
is_bound_meant c h t e a = ap is_some (bound_meant c h t e a) ∙ bound_there h (naming e)

-- what stands in the object that a description gives
then_then : {X Y Z W : Type 0} (f : Z → Option W) (g : Y → Option Z) (k : X → Y) (w : Option X) → option_and_then f (option_and_then (λ x. g (k x)) w) ≡ option_and_then (λ y. option_and_then f (g y)) (option_map k w)
then_then f g k None = refl
then_then f g k (Some x) = refl

pub queue_given : (c : Config) (h : History) (t : TablesView) (e : Event) → IsCore c h t → option_and_then (λ (r : ObjectRow). queue_in r.body) (option_and_then (λ (r : Row). row_at t.objects r.object) (row_meant t.descriptions e)) ≡ by_description (queue_held c h) e
queue_given c h t e a = at (description e) where
  at : (w : Option Described) → option_and_then (λ (r : ObjectRow). queue_in r.body) (option_and_then (λ (r : Row). row_at t.objects r.object) (option_and_then (λ (x : Described). row_of t.descriptions.rows (caller e).0 x.desc.0) w)) ≡ option_and_then (λ (x : Described). queue_held c h (caller e).0 x.desc.0) w
  at None = refl
  at (Some x) =
      then_then (λ (r : ObjectRow). queue_in r.body) (row_at t.objects) (λ (r : Row). r.object) (row_of t.descriptions.rows (caller e).0 x.desc.0)
      ∙ ap (option_and_then (queue_at t.objects)) (number_is c h t (caller e).0 x.desc.0 a.agrees)
      ∙ queue_is c h t (caller e).0 x.desc.0 a.legal a.agrees

pub semaphore_given : (c : Config) (h : History) (t : TablesView) (e : Event) → IsCore c h t → option_and_then (λ (r : ObjectRow). semaphore_in r.body) (option_and_then (λ (r : Row). row_at t.objects r.object) (row_meant t.descriptions e)) ≡ by_description (semaphore_held c h) e
semaphore_given c h t e a = at (description e) where
  at : (w : Option Described) → option_and_then (λ (r : ObjectRow). semaphore_in r.body) (option_and_then (λ (r : Row). row_at t.objects r.object) (option_and_then (λ (x : Described). row_of t.descriptions.rows (caller e).0 x.desc.0) w)) ≡ option_and_then (λ (x : Described). semaphore_held c h (caller e).0 x.desc.0) w
  at None = refl
  at (Some x) =
      then_then (λ (r : ObjectRow). semaphore_in r.body) (row_at t.objects) (λ (r : Row). r.object) (row_of t.descriptions.rows (caller e).0 x.desc.0)
      ∙ ap (option_and_then (semaphore_at t.objects)) (number_is c h t (caller e).0 x.desc.0 a.agrees)
      ∙ semaphore_is c h t (caller e).0 x.desc.0 a.legal a.agrees

pub full_meant : (c : Config) (h : History) (e : Event) → is_some_and is_full_of (by_description (queue_held c h) e) ≡ is_some_and (λ (x : Held). is_full c h x.object) (by_description (holds h) e)
full_meant c h e = at (description e) where
  at : (w : Option Described) → is_some_and is_full_of (option_and_then (λ (x : Described). queue_held c h (caller e).0 x.desc.0) w) ≡ is_some_and (λ (x : Held). is_full c h x.object) (option_and_then (λ (x : Described). holds h (caller e).0 x.desc.0) w)
  at None = refl
  at (Some x) = held_full_is c h (caller e).0 x.desc.0

pub empty_meant : (c : Config) (h : History) (e : Event) → is_some_and (λ (q : Tickets). eqb (length q.tickets) 0) (by_description (queue_held c h) e) ≡ is_some_and (λ (x : Held). is_empty c h x.object) (by_description (holds h) e)
empty_meant c h e = at (description e) where
  at : (w : Option Described) → is_some_and (λ (q : Tickets). eqb (length q.tickets) 0) (option_and_then (λ (x : Described). queue_held c h (caller e).0 x.desc.0) w) ≡ is_some_and (λ (x : Held). is_empty c h x.object) (option_and_then (λ (x : Described). holds h (caller e).0 x.desc.0) w)
  at None = refl
  at (Some x) = held_empty_is c h (caller e).0 x.desc.0

pub value_meant : (c : Config) (h : History) (e : Event) (test : ℕ → Bool) → Legal c h → is_some_and (λ (q : Counter). test q.value) (by_description (semaphore_held c h) e) ≡ is_some_and (λ (x : Held). is_some_and (λ first_value. test (value c h x.object)) (as_semaphore (object c h x.object))) (by_description (holds h) e)
value_meant c h e test legal = at (description e) where
  at : (w : Option Described) → is_some_and (λ (q : Counter). test q.value) (option_and_then (λ (x : Described). semaphore_held c h (caller e).0 x.desc.0) w) ≡ is_some_and (λ (x : Held). is_some_and (λ first_value. test (value c h x.object)) (as_semaphore (object c h x.object))) (option_and_then (λ (x : Described). holds h (caller e).0 x.desc.0) w)
  at None = refl
  at (Some x) = held_test_is c h test (caller e).0 x.desc.0 legal

-- registrations
registered_is : (w : Option Tickets) → is_some_and (λ (q : Tickets). is_some q.registered) w ≡ is_some (option_and_then (λ (q : Tickets). q.registered) w)
registered_is None = refl
registered_is (Some q) = refl

registered_held : (c : Config) (h : History) (w : Option Held) → Legal c h → is_some_and (λ (q : Tickets). is_some q.registered) (option_and_then (queue_meant c h) (option_map (λ (x : Held). x.object) w)) ≡ is_some_and (λ (x : Held). is_some (registered c h x.object)) w
registered_held c h None legal = refl
registered_held c h (Some x) legal =
    registered_is (queue_meant c h x.object)
    ∙ ap is_some (kept_desc c h x.object legal)
    ∙ mapped_some (λ (y : Registration). y.desc) (registered c h x.object)

pub registered_meant : (c : Config) (h : History) (e : Event) → Legal c h → is_some_and (λ (q : Tickets). is_some q.registered) (by_description (queue_held c h) e) ≡ is_some_and (λ (x : Held). is_some (registered c h x.object)) (by_description (holds h) e)
registered_meant c h e legal = at (description e) where
  at : (w : Option Described) → is_some_and (λ (q : Tickets). is_some q.registered) (option_and_then (λ (x : Described). queue_held c h (caller e).0 x.desc.0) w) ≡ is_some_and (λ (x : Held). is_some (registered c h x.object)) (option_and_then (λ (x : Described). holds h (caller e).0 x.desc.0) w)
  at None = refl
  at (Some x) = registered_held c h (holds h (caller e).0 x.desc.0) legal

-- NONBLOCK
pub nonblock_meant : (c : Config) (h : History) (t : TablesView) (e : Event) → IsCore c h t → is_some_and (λ (r : Row). r.nonblock) (row_meant t.descriptions e) ≡ (is_some (by_description (holds h) e) && is_some_and (λ (x : Described). is_nonblock h x.desc.0) (description e))
nonblock_meant c h t e a = at (description e) where
  at : (w : Option Described) → is_some_and (λ (r : Row). r.nonblock) (option_and_then (λ (x : Described). row_of t.descriptions.rows (caller e).0 x.desc.0) w) ≡ (is_some (option_and_then (λ (x : Described). holds h (caller e).0 x.desc.0) w) && is_some_and (λ (x : Described). is_nonblock h x.desc.0) w)
  at None = refl
  at (Some x) = nonblock_is c h t (caller e).0 x.desc.0 a.agrees

-- the session that is registered, read by the description
none_read : (t : Descriptions) (u : Option Tickets) → u ≡ None → option_and_then (read_by t) (option_and_then (λ (q : Tickets). q.registered) u) ≡ None
none_read t u e = rw e refl

pub registration_meant : (c : Config) (h : History) (t : Descriptions) (e : Event) (u : Option Tickets) → Legal c h → DescriptionsAgree h t → u ≡ by_description (queue_held c h) e → option_and_then (read_by t) (option_and_then (λ (q : Tickets). q.registered) u) ≡ option_and_then (λ (x : Held). registered c h x.object) (by_description (holds h) e)
registration_meant c h t e u legal agrees = at (description e) where
  at : (w : Option Described) → u ≡ option_and_then (λ (x : Described). queue_held c h (caller e).0 x.desc.0) w → option_and_then (read_by t) (option_and_then (λ (q : Tickets). q.registered) u) ≡ option_and_then (λ (x : Held). registered c h x.object) (option_and_then (λ (x : Described). holds h (caller e).0 x.desc.0) w)
  at None k = none_read t u k
  at (Some x) k = registration_read c h t (caller e).0 x.desc.0 u legal agrees k
