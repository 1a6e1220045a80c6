-- What is looked up of a session's description, of the object that it gives and of its queue, in tables that agree with a history.
use Rattle.std.proofs.Common.{◌≡◌, ℕ, Bool, true, false, ◌&&◌, eqb, cond, List, [], ◌∷◌, length, Option, Some, None, is_some, refl, sym, ap, ◌∙◌, arith}
use Rattle.std.specs.Prelude.{option_and_then, nat_le, IsSome}
use Rattle.std.specs.Option.{option_map}
use Rattle.ipc_terms.proofs.Lists.{eqb_swapped}
use Rattle.std.proofs.lemmas.Bool.{eqb-true, eq-eqb, ne_eqb}
use Rattle.std.proofs.lemmas.List.{length-map}
use Rattle.ipc_queue.specs.Tickets.{is_full_of}
use Rattle.ipc_policy.specs.declared.config.Config.{Config}
use Rattle.ipc_policy.specs.declared.config.Held.{Held}
use Rattle.ipc_policy.specs.Decides.History.{History}
use Rattle.ipc_policy.specs.Decides.Objects.{object}
use Rattle.ipc_policy.specs.Decides.Descriptions.{if_of, held, holds, is_nonblock}
use Rattle.ipc_policy.specs.Decides.Queues.{has_none, attributes}
use Rattle.ipc_policy.specs.Decides.Semaphores.{Semaphore}
use Rattle.ipc_policy.specs.Decides.Bodies.{queue, contents, semaphore, value}
use Rattle.ipc_policy.specs.Decides.Verdict.{Legal}
use Rattle.ipc_policy.proofs.Semaphores.ValueCounts.{value_counted}
use Rattle.ipc_policy.specs.Decides.Life.{alive}
use Rattle.ipc_policy.specs.Decides.Rules.{is_some_and, object_held, is_full, is_empty}
use Rattle.ipc_tables.specs.declared.rows.ObjectRow.{ObjectRow}
use Rattle.ipc_descr.specs.declared.row.Row.{Row}
use Rattle.ipc_policy.proofs.Directories.Creating.{holds_is_held}
use Rattle.ipc_terms.specs.declared.call.Attributes.{Attributes}
use Rattle.ipc_descr.specs.Descriptions.{is_of, if_of as if_row_of, row_of}
use Rattle.ipc_descr.proofs.Answering.{row_told}
use Rattle.ipc_sem.specs.Counters.{Counter}
use Rattle.ipc_terms.specs.Objects.{as_semaphore}
use Rattle.ipc_tables.specs.Objects.{row_at, queue_at, semaphore_at}
use Rattle.ipc_tables.specs.TablesView.{TablesView}
use Rattle.ipc_policy.specs.Decides.Registrations.{registered}
use Rattle.ipc_state.specs.Agrees.{Agrees, row_held, held_in, ticket_of, tickets_of, queue_meant, counter_of, semaphore_meant}
use Rattle.ipc_state.proofs.Lookups.{row_is, held_is, held_alive, object_alive, queue_alive, semaphore_alive}

-- what a session holds is held, and is the session's
session_mine : (s : ℕ) (w : Option Held) (x : Held) → option_and_then (if_of s) w ≡ Some x → x.session.0 ≡ s
session_mine s None x e = absurd cc
session_mine s (Some y) x e = at (eqb y.session.0 s) refl e where
  at : (b : Bool) → eqb y.session.0 s ≡ b → cond b (Some y) None ≡ Some x → x.session.0 ≡ s
  at true k l = let same : y ≡ x = cc in ap (λ (z : Held). z.session.0) (sym same) ∙ eqb-true _ _ k
  at false k l = absurd cc

pub holds_session : (h : History) (s d : ℕ) (x : Held) → holds h s d ≡ Some x → x.session.0 ≡ s
unfolding holds
holds_session h s d x e = session_mine s (held h d) x e

pub holds_alive : (h : History) (s d : ℕ) (x : Held) → holds h s d ≡ Some x → alive h x.object ≡ true
holds_alive h s d x e = held_alive h d x (holds_is_held h s d x e)

-- the row of what a session holds
session_told : (h : History) (s d : ℕ) (row : Row) → eqb (held_in row).session.0 s ≡ is_of s row
session_told h s d row = eqb_swapped row.session.0 s

pub holds_is : (c : Config) (h : History) (t : TablesView) (s d : ℕ) → Agrees c h t → option_map held_in (row_of t.descriptions.rows s d) ≡ holds h s d
unfolding holds
holds_is c h t s d a = row_told held_in (λ x. eqb x.session.0 s) t.descriptions.rows s d (session_told h s d) ∙ ap (option_and_then (if_of s)) (held_is h t.descriptions d a.descriptions)

-- its object by number
numbered : (w : Option Row) → option_map (λ (row : Row). row.object) w ≡ option_map (λ (x : Held). x.object) (option_map held_in w)
numbered None = refl
numbered (Some row) = refl

pub number_is : (c : Config) (h : History) (t : TablesView) (s d : ℕ) → Agrees c h t → option_map (λ (row : Row). row.object) (row_of t.descriptions.rows s d) ≡ option_map (λ (x : Held). x.object) (holds h s d)
number_is c h t s d a = numbered (row_of t.descriptions.rows s d) ∙ ap (option_map (λ (x : Held). x.object)) (holds_is c h t s d a)

-- the object
pub object_is : (c : Config) (h : History) (t : TablesView) (s d : ℕ) → Legal c h → Agrees c h t → option_and_then (λ o. option_map (λ (row : ObjectRow). row.object) (row_at t.objects o)) (option_map (λ (x : Held). x.object) (holds h s d)) ≡ object_held c h s d
object_is c h t s d legal a = at (holds h s d) refl where
  at : (w : Option Held) → holds h s d ≡ w → option_and_then (λ o. option_map (λ (row : ObjectRow). row.object) (row_at t.objects o)) (option_map (λ (x : Held). x.object) w) ≡ option_and_then (λ x. object c h x.object) w
  at None e = refl
  at (Some x) e = object_alive c h t x.object legal a (holds_alive h s d x e)

-- the queue
pub queue_is : (c : Config) (h : History) (t : TablesView) (s d : ℕ) → Legal c h → Agrees c h t → option_and_then (queue_at t.objects) (option_map (λ (x : Held). x.object) (holds h s d)) ≡ option_and_then (queue_meant c h) (option_map (λ (x : Held). x.object) (holds h s d))
queue_is c h t s d legal a = at (holds h s d) refl where
  at : (w : Option Held) → holds h s d ≡ w → option_and_then (queue_at t.objects) (option_map (λ (x : Held). x.object) w) ≡ option_and_then (queue_meant c h) (option_map (λ (x : Held). x.object) w)
  at None e = refl
  at (Some x) e = queue_alive c h t x.object legal a (holds_alive h s d x e)

-- the semaphore
pub semaphore_is : (c : Config) (h : History) (t : TablesView) (s d : ℕ) → Legal c h → Agrees c h t → option_and_then (semaphore_at t.objects) (option_map (λ (x : Held). x.object) (holds h s d)) ≡ option_and_then (semaphore_meant c h) (option_map (λ (x : Held). x.object) (holds h s d))
semaphore_is c h t s d legal a = at (holds h s d) refl where
  at : (w : Option Held) → holds h s d ≡ w → option_and_then (semaphore_at t.objects) (option_map (λ (x : Held). x.object) w) ≡ option_and_then (semaphore_meant c h) (option_map (λ (x : Held). x.object) w)
  at None e = refl
  at (Some x) e = semaphore_alive c h t x.object legal a (holds_alive h s d x e)

-- whether its value is 0, and whether it is the greatest
test_is : (test : ℕ → Bool) (u : Semaphore) (n : ℕ) (w : Option ℕ) → n ≡ u.running → is_some_and (λ (q : Counter). test q.value) (option_map (λ first_value. counter_of u) w) ≡ is_some_and (λ first_value. test n) w
test_is test u n None e = refl
test_is test u n (Some first) e = ap test (sym e)

pub held_test_is : (c : Config) (h : History) (test : ℕ → Bool) (s d : ℕ) → Legal c h → is_some_and (λ (q : Counter). test q.value) (option_and_then (semaphore_meant c h) (option_map (λ (x : Held). x.object) (holds h s d))) ≡ is_some_and (λ (x : Held). is_some_and (λ first_value. test (value c h x.object)) (as_semaphore (object c h x.object))) (holds h s d)
held_test_is c h test s d legal = at (holds h s d) where
  at : (w : Option Held) → is_some_and (λ (q : Counter). test q.value) (option_and_then (semaphore_meant c h) (option_map (λ (x : Held). x.object) w)) ≡ is_some_and (λ (x : Held). is_some_and (λ first_value. test (value c h x.object)) (as_semaphore (object c h x.object))) w
  at None = refl
  at (Some x) = test_is test (semaphore c h x.object) (value c h x.object) (as_semaphore (object c h x.object)) (value_counted c h x.object legal)

-- whether it is full, and whether it is empty
pub full_is : (c : Config) (h : History) (o : ℕ) → is_some_and is_full_of (queue_meant c h o) ≡ is_full c h o
full_is c h o = at (attributes c h o) where
  at : (w : Option Attributes) → is_some_and is_full_of (option_map (tickets_of (registered c h o) (queue c h o)) w) ≡ is_some_and (λ (x : Attributes). nat_le x.maxmsg (length (contents c h o))) w
  at None = refl
  at (Some x) = ap (nat_le x.maxmsg) (length-map (contents c h o) ticket_of)

none_counted : {A : Type 0} (xs : List A) → eqb (length xs) 0 ≡ has_none xs
none_counted [] = eq-eqb 0 0 refl
none_counted (x ∷ xs) = ne_eqb (length (x ∷ xs)) 0 (λ (e : length (x ∷ xs) ≡ 0). omega arith)

pub empty_is : (c : Config) (h : History) (o : ℕ) → is_some_and (λ q. eqb (length q.tickets) 0) (queue_meant c h o) ≡ is_empty c h o
empty_is c h o = at (attributes c h o) where
  at : (w : Option Attributes) → is_some_and (λ q. eqb (length q.tickets) 0) (option_map (tickets_of (registered c h o) (queue c h o)) w) ≡ is_some_and (λ (x : Attributes). has_none (contents c h o)) w
  at None = refl
  at (Some x) = ap (λ n. eqb n 0) (length-map (contents c h o) ticket_of) ∙ none_counted (contents c h o)

pub held_full_is : (c : Config) (h : History) (s d : ℕ) → is_some_and is_full_of (option_and_then (queue_meant c h) (option_map (λ (x : Held). x.object) (holds h s d))) ≡ is_some_and (λ x. is_full c h x.object) (holds h s d)
held_full_is c h s d = at (holds h s d) where
  at : (w : Option Held) → is_some_and is_full_of (option_and_then (queue_meant c h) (option_map (λ (x : Held). x.object) w)) ≡ is_some_and (λ x. is_full c h x.object) w
  at None = refl
  at (Some x) = full_is c h x.object

pub held_empty_is : (c : Config) (h : History) (s d : ℕ) → is_some_and (λ q. eqb (length q.tickets) 0) (option_and_then (queue_meant c h) (option_map (λ (x : Held). x.object) (holds h s d))) ≡ is_some_and (λ x. is_empty c h x.object) (holds h s d)
held_empty_is c h s d = at (holds h s d) where
  at : (w : Option Held) → is_some_and (λ q. eqb (length q.tickets) 0) (option_and_then (queue_meant c h) (option_map (λ (x : Held). x.object) w)) ≡ is_some_and (λ x. is_empty c h x.object) w
  at None = refl
  at (Some x) = empty_is c h x.object

-- whether the calls of what a session holds are refused where they would wait
row_nonblock : (b : ℕ → Bool) (s d : ℕ) (w : Option Held) → is_some_and (λ (row : Row). row.nonblock) (option_and_then (if_row_of s) (option_map (row_held b d) w)) ≡ (is_some (option_and_then (if_of s) w) && b d)
row_nonblock b s d None = refl
row_nonblock b s d (Some x) = at (eqb x.session.0 s) refl where
  at : (i : Bool) → eqb x.session.0 s ≡ i → is_some_and (λ (row : Row). row.nonblock) (cond (eqb s x.session.0) (Some (row_held b d x)) None) ≡ (is_some (cond i (Some x) None) && b d)
  at true e = rw (eqb_swapped s x.session.0, e) refl
  at false e = rw (eqb_swapped s x.session.0, e) refl

pub nonblock_is : (c : Config) (h : History) (t : TablesView) (s d : ℕ) → Agrees c h t → is_some_and (λ (row : Row). row.nonblock) (row_of t.descriptions.rows s d) ≡ (is_some (holds h s d) && is_nonblock h d)
unfolding holds
nonblock_is c h t s d a = ap (λ w. is_some_and (λ (row : Row). row.nonblock) (option_and_then (if_row_of s) w)) (row_is h t.descriptions d a.descriptions) ∙ row_nonblock (is_nonblock h) s d (held h d)

held_on : (w : Option Held) (b : Bool) → IsSome w → (is_some w && b) ≡ b
held_on None b e = absurd cc
held_on (Some x) b e = refl

pub nonblock_there : (c : Config) (h : History) (t : TablesView) (s d : ℕ) → Agrees c h t → IsSome (holds h s d) → is_some_and (λ (row : Row). row.nonblock) (row_of t.descriptions.rows s d) ≡ is_nonblock h d
nonblock_there c h t s d a e = nonblock_is c h t s d a ∙ held_on (holds h s d) (is_nonblock h d) e

-- a description that is held has a row
row_there : (w : Option Row) (v : Option Held) → option_map held_in w ≡ v → is_some v ≡ true → IsSome w
row_there None v e k = absurd (let none = ap is_some e ∙ k in cc)
row_there (Some row) v e k = refl

pub held_row : (c : Config) (h : History) (t : TablesView) (s d : ℕ) → Agrees c h t → is_some (holds h s d) ≡ true → IsSome (row_of t.descriptions.rows s d)
held_row c h t s d a e = row_there (row_of t.descriptions.rows s d) (holds h s d) (holds_is c h t s d a) e
