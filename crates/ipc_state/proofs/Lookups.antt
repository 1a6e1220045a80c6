-- What is looked up in tables that agree with a history is the policy's value.
use Rattle.std.proofs.Common.{◌≡◌, ℕ, ◌<◌, Bool, true, false, ◌||◌, eqb, cond, List, find, count_by, slice_get, Option, Some, None, is_some, refl, sym, ap, ◌∙◌}
use Rattle.std.specs.Prelude.{option_and_then}
use Rattle.std.specs.List.{list_any}
use Rattle.std.specs.Option.{option_map}
use Rattle.std.proofs.lemmas.Bool.{eq-eqb, ne_eqb, or_left, or_right}
use Rattle.ipc_terms.specs.Names.{same_family, same_name}
use Rattle.ipc_terms.specs.declared.binding.Binding.{Binding}
use Rattle.ipc_terms.specs.declared.facts.Facts.{Facts}
use Rattle.ipc_terms.specs.declared.ids.Family.{Family}
use Rattle.ipc_terms.specs.declared.ids.Mode.{Mode}
use Rattle.ipc_terms.specs.declared.ids.Family.TheVariants.{Mq, Sem}
use Rattle.ipc_access.specs.Users.{cred_of}
use Rattle.ipc_names.specs.Directory.{Directory, object_named, names_object, bound_names}
use Rattle.ipc_policy.specs.declared.config.Config.{Config}
use Rattle.ipc_policy.specs.declared.config.Held.{Held}
use Rattle.ipc_terms.specs.declared.object.Object.{Object}
use Rattle.ipc_policy.specs.Decides.History.{History, gathered_below, any_below}
use Rattle.ipc_policy.specs.Decides.Sessions.{cred, mask}
use Rattle.ipc_policy.specs.Decides.Names.{Opening, creations, bound}
use Rattle.ipc_policy.specs.Decides.Objects.{object, facts}
use Rattle.ipc_policy.specs.Decides.Descriptions.{opens, if_of, held, holds, held_count, is_nonblock}
use Rattle.ipc_policy.specs.Decides.Life.{named, binding_of, bindings, names, gives_object, alive}
use Rattle.ipc_policy.specs.Decides.Parking.{Parked, parked}
use Rattle.ipc_policy.proofs.Lists.Gathering.{passes, gathered_any, gathered_find, any_one, any_below_same, any_below_at}
use Rattle.ipc_policy.proofs.Holdings.Holding.{held_below, how_many_below_same}
use Rattle.ipc_policy.proofs.Directories.Living.{named_below}
use Rattle.ipc_policy.proofs.Directories.Listing.{listed_is_bound}
use Rattle.ipc_policy.specs.Decides.Verdict.{Legal}
use Rattle.ipc_policy.proofs.Histories.Known.{object_below}
use Rattle.ipc_policy.proofs.Directories.Bindings.{object_with_facts}
use Rattle.ipc_tables.specs.declared.rows.Session.{Session}
use Rattle.ipc_tables.specs.declared.rows.ObjectRow.{ObjectRow}
use Rattle.ipc_descr.specs.declared.row.Row.{Row}
use Rattle.ipc_descr.specs.Descriptions.{Descriptions, is_desc, is_of, is_to, is_open}
use Rattle.ipc_tables.specs.Objects.{bytes_taken, is_number, row_at, facts_at, queue_in, queue_at, semaphore_in, semaphore_at}
use Rattle.ipc_tables.specs.declared.rows.Body.{Body}
use Rattle.ipc_tables.specs.TablesView.{TablesView, directory_kept, parked_on_at, is_alive}
use Rattle.ipc_terms.specs.Objects.{of_queue, as_queue, of_semaphore, as_semaphore}
use Rattle.ipc_terms.specs.declared.object.Kind.{Kind}
use Rattle.ipc_terms.specs.declared.object.Kind.TheVariants.{Queue as QueueKind, Semaphore as SemaphoreKind}
use Rattle.ipc_policy.specs.Decides.Bodies.{queue, semaphore}
use Rattle.ipc_policy.specs.Decides.Registrations.{registered}
use Rattle.ipc_state.specs.Agrees.{Agrees, SessionsAgree, DirectoryAgrees, ObjectsAgree, DescriptionsAgree, tickets_of, queue_meant, counter_of, semaphore_meant, Inside, inside, body_of, row_made, row_with, row_held, held_in}
use Rattle.ipc_terms.proofs.Lists.{counted_is, found_any, eqb_swapped}
use Rattle.ipc_state.proofs.Gathered.{gathered_count}

-- sessions
then_map : {X Y Z : Type 0} (f : X → Y) (g : Y → Option Z) (o : Option X) → option_and_then (λ x. g (f x)) o ≡ option_and_then g (option_map f o)
then_map f g None = refl
then_map f g (Some x) = refl

pub cred_is : (c : Config) (h : History) (xs : List Session) (s : ℕ) → SessionsAgree c h xs → option_and_then (λ (row : Session). cred_of c.users row.user) (slice_get xs s) ≡ cred c h s
unfolding cred
cred_is c h xs s a = then_map (λ (row : Session). row.user) (cred_of c.users) (slice_get xs s) ∙ ap (option_and_then (cred_of c.users)) (a.users s)

pub mask_is : (c : Config) (h : History) (xs : List Session) (s : ℕ) (row : Session) → SessionsAgree c h xs → Some row ≡ slice_get xs s → row.mask ≡ record { 0 = mask h s }
mask_is c h xs s row a is =
    let mode : ℕ → Mode = λ n. record { 0 = n } in
    ap mode (a.masks s row (sym is))

pub mapped_some : {X Y : Type 0} (f : X → Y) (o : Option X) → is_some (option_map f o) ≡ is_some o
mapped_some f None = refl
mapped_some f (Some x) = refl

pub parked_is : (c : Config) (h : History) (xs : List Session) (s : ℕ) → SessionsAgree c h xs → is_some (parked_on_at xs s) ≡ is_some (parked c h s)
parked_is c h xs s a = ap is_some (a.parks s) ∙ mapped_some (λ (p : Parked). p.object) (parked c h s)

-- descriptions
pub row_of_other : (b : ℕ → Bool) (d i : ℕ) (w : Option Held) → eqb d i ≡ false → passes (is_desc d) (option_map (row_held b i) w) ≡ false
row_of_other b d i None e = refl
row_of_other b d i (Some x) e = e

pub row_of_own : (b : ℕ → Bool) (d : ℕ) (w : Option Held) (row : Row) → option_map (row_held b d) w ≡ Some row → is_desc d row ≡ true
row_of_own b d None row e = absurd cc
row_of_own b d (Some x) row e = let same : row_held b d x ≡ row = cc in rw (← same) (eq-eqb d d refl)

held_back : (b : ℕ → Bool) (d : ℕ) (w : Option Held) → option_map held_in (option_map (row_held b d) w) ≡ w
held_back b d None = refl
held_back b d (Some x) = refl

row_some : (b : ℕ → Bool) (d : ℕ) (w : Option Held) → is_some (option_map (row_held b d) w) ≡ true → is_some w ≡ true
row_some b d None e = e
row_some b d (Some x) e = refl

pub row_is : (h : History) (t : Descriptions) (d : ℕ) → DescriptionsAgree h t → find (is_desc d) t.rows ≡ option_map (row_held (is_nonblock h) d) (held h d)
row_is h t d a =
    ap (find (is_desc d)) a.rows
    ∙ gathered_find (is_desc d) (λ i. option_map (row_held (is_nonblock h) i) (held h i)) (opens h) d
    (λ e. held_below h d (row_some (is_nonblock h) d (held h d) e))
    (λ i ne. row_of_other (is_nonblock h) d i (held h i) (ne_eqb d i (λ q. ne (sym q))))
    (λ row e. row_of_own (is_nonblock h) d (held h d) row e)

pub held_is : (h : History) (t : Descriptions) (d : ℕ) → DescriptionsAgree h t → option_map held_in (find (is_desc d) t.rows) ≡ held h d
held_is h t d a = ap (option_map held_in) (row_is h t d a) ∙ held_back (is_nonblock h) d (held h d)

object_given : (h : History) (s d o : ℕ) (w : Option Held) → option_map (λ (x : Held). x.object) (option_and_then (if_of s) w) ≡ Some o → option_map (λ (row : Row). row.object) (option_map (row_held (is_nonblock h) d) w) ≡ Some o
object_given h s d o None e = e
object_given h s d o (Some x) e = at (eqb x.session.0 s) e where
  at : (own : Bool) → option_map (λ (y : Held). y.object) (cond own (Some x) None) ≡ Some o → Some x.object ≡ Some o
  at true k = k
  at false k = absurd cc

-- what a session has by a description is what the description gives
pub given_is : (h : History) (t : Descriptions) (s d o : ℕ) → DescriptionsAgree h t → option_map (λ (x : Held). x.object) (holds h s d) ≡ Some o → option_map (λ (row : Row). row.object) (find (is_desc d) t.rows) ≡ Some o
unfolding holds
given_is h t s d o a e = ap (option_map (λ (row : Row). row.object)) (row_is h t d a) ∙ object_given h s d o (held h d) e

of_session : (n : ℕ → Bool) (s d : ℕ) (w : Option Held) → passes (is_of s) (option_map (row_held n d) w) ≡ is_some (option_and_then (if_of s) w)
of_session n s d None = refl
of_session n s d (Some x) = eqb_swapped s x.session.0 ∙ at (eqb x.session.0 s) where
  at : (b : Bool) → b ≡ is_some (cond b (Some x) None)
  at true = refl
  at false = refl

pub counts_is : (h : History) (t : Descriptions) (s : ℕ) → DescriptionsAgree h t → count_by (is_of s) t.rows ≡ held_count h s
unfolding held_count holds
counts_is h t s a =
    ap (count_by (is_of s)) a.rows
    ∙ counted_is (is_of s) (gathered_below (λ d. option_map (row_held (is_nonblock h) d) (held h d)) (opens h))
    ∙ gathered_count (is_of s) (λ d. option_map (row_held (is_nonblock h) d) (held h d)) (opens h)
    ∙ how_many_below_same _ _ (opens h) (λ d lt. of_session (is_nonblock h) s d (held h d))

to_object : (n : ℕ → Bool) (o d : ℕ) (w : Option Held) → passes (is_to o) (option_map (row_held n d) w) ≡ gives_object o w
to_object n o d None = refl
to_object n o d (Some x) = refl

pub open_is : (h : History) (t : Descriptions) (o : ℕ) → DescriptionsAgree h t → is_open t.rows o ≡ any_below (λ d. gives_object o (held h d)) (opens h)
open_is h t o a =
    ap (list_any (is_to o)) a.rows
    ∙ gathered_any (is_to o) (λ d. option_map (row_held (is_nonblock h) d) (held h d)) (opens h)
    ∙ any_below_same _ _ (opens h) (λ d lt. to_object (is_nonblock h) o d (held h d))

-- names
pub found_is : (h : History) (f : Family) (t : Directory) (name : List ℕ) → DirectoryAgrees h f t → object_named t.bindings name ≡ bound h f name
found_is h f t name a = ap (λ xs. object_named xs name) a.bound ∙ listed_is_bound h f name

pub names_are : (h : History) (f : Family) (t : Directory) → DirectoryAgrees h f t → bound_names t.bindings ≡ names h f
unfolding names
names_are h f t a = ap bound_names a.bound

-- whether there is a name, and it is of the family
abbrev of_family : Family → Option Opening → Bool
of_family f None = false
of_family f (Some asked) = same_family asked.family f

binding_other : (f : Family) (o i : ℕ) (w : Option Opening) → eqb i o ≡ false → passes (λ (b : Binding). eqb b.object o) (binding_of f i w) ≡ false
binding_other f o i None e = refl
binding_other f o i (Some asked) e = at (same_family asked.family f) where
  at : (b : Bool) → passes (λ (b : Binding). eqb b.object o) (cond b (Some (record { name = asked.name; object = i })) None) ≡ false
  at true = e
  at false = refl

binding_own : (f : Family) (o : ℕ) (w : Option Opening) → passes (λ (b : Binding). eqb b.object o) (binding_of f o w) ≡ of_family f w
binding_own f o None = refl
binding_own f o (Some asked) = at (same_family asked.family f) where
  at : (b : Bool) → passes (λ (b : Binding). eqb b.object o) (cond b (Some (record { name = asked.name; object = o })) None) ≡ b
  at true = eq-eqb o o refl
  at false = refl

family_some : (f : Family) (w : Option Opening) → of_family f w ≡ true → is_some w ≡ true
family_some f None e = e
family_some f (Some asked) e = refl

named_object : (h : History) (f : Family) (o : ℕ) → names_object (bindings h f) o ≡ of_family f (named h o)
unfolding bindings
named_object h f o =
    gathered_any (λ (b : Binding). eqb b.object o) (λ i. binding_of f i (named h i)) (creations h)
    ∙ any_one (λ i. passes (λ (b : Binding). eqb b.object o) (binding_of f i (named h i))) (creations h) o
    (λ e. named_below h o (family_some f (named h o) (sym (binding_own f o (named h o)) ∙ e)))
    (λ i ne. binding_other f o i (named h i) (ne_eqb i o ne))
    ∙ binding_own f o (named h o)

either_family : (w : Option Opening) → (of_family Mq w || of_family Sem w) ≡ is_some w
either_family None = refl
either_family (Some asked) = at asked.family where
  at : (f : Family) → (same_family f Mq || same_family f Sem) ≡ true
  at Mq = refl
  at Sem = refl

pub alive_is : (h : History) (queues semaphores : Directory) (t : Descriptions) (o : ℕ) → DirectoryAgrees h Mq queues → DirectoryAgrees h Sem semaphores → DescriptionsAgree h t → is_alive queues semaphores t.rows o ≡ alive h o
unfolding alive
alive_is h queues semaphores t o q s a =
    ap (λ xs. names_object xs o || names_object semaphores.bindings o || is_open t.rows o) q.bound
    ∙ ap (λ xs. names_object (bindings h Mq) o || names_object xs o || is_open t.rows o) s.bound
    ∙ ap (λ b. b || names_object (bindings h Sem) o || is_open t.rows o) (named_object h Mq o)
    ∙ ap (λ b. of_family Mq (named h o) || b || is_open t.rows o) (named_object h Sem o)
    ∙ ap (λ b. b || is_open t.rows o) (either_family (named h o))
    ∙ ap (λ b. is_some (named h o) || b) (open_is h t o a)

-- an object to which a name is bound is alive, and so is one that a description gives
bound_at : (h : History) (f : Family) (name : List ℕ) (o : ℕ) (w : Option Binding) → find (λ (b : Binding). same_name b.name name) (bindings h f) ≡ w → option_map (λ (b : Binding). b.object) w ≡ Some o → names_object (bindings h f) o ≡ true
bound_at h f name o None e k = absurd cc
bound_at h f name o (Some b) e k = let same : b.object ≡ o = cc in found_any (λ (b : Binding). same_name b.name name) (λ (b : Binding). eqb b.object o) (bindings h f) b e (eq-eqb b.object o same)

pub bound_alive : (h : History) (f : Family) (name : List ℕ) (o : ℕ) → bound h f name ≡ Some o → alive h o ≡ true
unfolding alive
bound_alive h f name o e =
    let there = bound_at h f name o (find (λ (b : Binding). same_name b.name name) (bindings h f)) refl (listed_is_bound h f name ∙ e) in
    or_left (is_some (named h o)) (any_below (λ d. gives_object o (held h d)) (opens h)) (family_some f (named h o) (sym (named_object h f o) ∙ there))

pub held_alive : (h : History) (d : ℕ) (x : Held) → held h d ≡ Some x → alive h x.object ≡ true
unfolding alive
held_alive h d x e =
    or_right (is_some (named h x.object)) (any_below (λ i. gives_object x.object (held h i)) (opens h))
    (any_below_at (λ i. gives_object x.object (held h i)) (opens h) d (held_below h d (ap is_some e)) (ap (gives_object x.object) e ∙ eq-eqb x.object x.object refl))

-- objects
living_below : (c : Config) (h : History) (o : ℕ) (b : Bool) (w : Option Object) (v : Option Facts) (q : Inside) → object c h o ≡ w → is_some (cond b (row_made o w v q) None) ≡ true → o < creations h
living_below c h o true None v q e k = absurd cc
living_below c h o true (Some x) v q e k = object_below c h o (ap is_some e)
living_below c h o false w v q e k = absurd cc

pub row_other : (o i : ℕ) (b : Bool) (w : Option Object) (v : Option Facts) (q : Inside) → eqb i o ≡ false → passes (is_number o) (cond b (row_made i w v q) None) ≡ false
row_other o i true None v q e = refl
row_other o i true (Some x) None q e = refl
row_other o i true (Some x) (Some y) q e = e
row_other o i false w v q e = refl

pub row_own : (o : ℕ) (b : Bool) (w : Option Object) (v : Option Facts) (q : Inside) (row : ObjectRow) → cond b (row_made o w v q) None ≡ Some row → is_number o row ≡ true
row_own o true None v q row e = absurd cc
row_own o true (Some x) None q row e = absurd cc
row_own o true (Some x) (Some y) q row e = let same : record { number = o; object = x; facts = y; bytes = bytes_taken x.kind; body = body_of x.kind q } ≡ row = cc in ap (λ (r : ObjectRow). eqb r.number o) (sym same) ∙ eq-eqb o o refl
row_own o false w v q row e = absurd cc

pub row_at_is : (c : Config) (h : History) (objects : List ObjectRow) (created o : ℕ) → ObjectsAgree c h objects created → row_at objects o ≡ row_with c h (inside c h) o
row_at_is c h objects created o a =
    ap (find (is_number o)) a.rows
    ∙ gathered_find (is_number o) (row_with c h (inside c h)) (creations h) o
    (λ e. living_below c h o (alive h o) (object c h o) (facts c h o) (inside c h o) refl e)
    (λ i ne. row_other o i (alive h i) (object c h i) (facts c h i) (inside c h i) (ne_eqb i o ne))
    (λ row e. row_own o (alive h o) (object c h o) (facts c h o) (inside c h o) row e)

-- what is told of the row of an object that is alive
facts_column : (o : ℕ) (b : Bool) (w : Option Object) (v : Option Facts) (q : Inside) → b ≡ true → is_some w ≡ is_some v → option_map (λ (row : ObjectRow). row.facts) (cond b (row_made o w v q) None) ≡ v
facts_column o true None None q e k = refl
facts_column o true None (Some y) q e k = absurd cc
facts_column o true (Some x) None q e k = absurd cc
facts_column o true (Some x) (Some y) q e k = refl
facts_column o false w v q e k = absurd cc

object_column : (o : ℕ) (b : Bool) (w : Option Object) (v : Option Facts) (q : Inside) → b ≡ true → is_some w ≡ is_some v → option_map (λ (row : ObjectRow). row.object) (cond b (row_made o w v q) None) ≡ w
object_column o true None None q e k = refl
object_column o true None (Some y) q e k = absurd cc
object_column o true (Some x) None q e k = absurd cc
object_column o true (Some x) (Some y) q e k = refl
object_column o false w v q e k = absurd cc

queue_of_kind : (x : Object) (q : Inside) → queue_in (body_of x.kind q) ≡ option_map (tickets_of q.registered q.queue) (of_queue x.kind)
queue_of_kind x q = at x.kind where
  at : (kind : Kind) → queue_in (body_of kind q) ≡ option_map (tickets_of q.registered q.queue) (of_queue kind)
  at (QueueKind attributes) = refl
  at (SemaphoreKind value) = refl

semaphore_of_kind : (x : Object) (q : Inside) → semaphore_in (body_of x.kind q) ≡ option_map (λ first_value. counter_of q.semaphore) (of_semaphore x.kind)
semaphore_of_kind x q = at x.kind where
  at : (kind : Kind) → semaphore_in (body_of kind q) ≡ option_map (λ first_value. counter_of q.semaphore) (of_semaphore kind)
  at (QueueKind attributes) = refl
  at (SemaphoreKind value) = refl

body_column : {A : Type 0} (of : Body → Option A) (meant : Option Object → Option A) (q : Inside) → meant None ≡ None → ((x : Object) → of (body_of x.kind q) ≡ meant (Some x)) → (o : ℕ) (b : Bool) (w : Option Object) (v : Option Facts) → b ≡ true → is_some w ≡ is_some v → option_and_then (λ (row : ObjectRow). of row.body) (cond b (row_made o w v q) None) ≡ meant w
body_column of meant q none some o true None None e k = sym none
body_column of meant q none some o true None (Some y) e k = absurd cc
body_column of meant q none some o true (Some x) None e k = absurd cc
body_column of meant q none some o true (Some x) (Some y) e k = some x
body_column of meant q none some o false w v e k = absurd cc

pub object_alive : (c : Config) (h : History) (t : TablesView) (o : ℕ) → Legal c h → Agrees c h t → alive h o ≡ true → option_map (λ (row : ObjectRow). row.object) (row_at t.objects o) ≡ object c h o
object_alive c h t o legal a k =
    ap (option_map (λ (row : ObjectRow). row.object)) (row_at_is c h t.objects t.created o a.objects)
    ∙ object_column o (alive h o) (object c h o) (facts c h o) (inside c h o) k (object_with_facts c h legal o)

pub queue_alive : (c : Config) (h : History) (t : TablesView) (o : ℕ) → Legal c h → Agrees c h t → alive h o ≡ true → queue_at t.objects o ≡ queue_meant c h o
queue_alive c h t o legal a k =
    ap (option_and_then (λ (row : ObjectRow). queue_in row.body)) (row_at_is c h t.objects t.created o a.objects)
    ∙ body_column queue_in (λ w. option_map (tickets_of (registered c h o) (queue c h o)) (as_queue w)) (inside c h o) refl (λ x. queue_of_kind x (inside c h o)) o (alive h o) (object c h o) (facts c h o) k (object_with_facts c h legal o)

pub semaphore_alive : (c : Config) (h : History) (t : TablesView) (o : ℕ) → Legal c h → Agrees c h t → alive h o ≡ true → semaphore_at t.objects o ≡ semaphore_meant c h o
semaphore_alive c h t o legal a k =
    ap (option_and_then (λ (row : ObjectRow). semaphore_in row.body)) (row_at_is c h t.objects t.created o a.objects)
    ∙ body_column semaphore_in (λ w. option_map (λ first_value. counter_of (semaphore c h o)) (as_semaphore w)) (inside c h o) refl (λ x. semaphore_of_kind x (inside c h o)) o (alive h o) (object c h o) (facts c h o) k (object_with_facts c h legal o)

pub facts_alive : (c : Config) (h : History) (objects : List ObjectRow) (created o : ℕ) → Legal c h → ObjectsAgree c h objects created → alive h o ≡ true → facts_at objects o ≡ facts c h o
facts_alive c h objects created o legal a k = ap (option_map (λ (row : ObjectRow). row.facts)) (row_at_is c h objects created o a) ∙ facts_column o (alive h o) (object c h o) (facts c h o) (inside c h o) k (object_with_facts c h legal o)

pub facts_found : (c : Config) (h : History) (objects : List ObjectRow) (created : ℕ) (f : Family) (name : List ℕ) → Legal c h → ObjectsAgree c h objects created → option_and_then (facts_at objects) (bound h f name) ≡ option_and_then (facts c h) (bound h f name)
facts_found c h objects created f name legal a = at (bound h f name) refl where
  at : (w : Option ℕ) → bound h f name ≡ w → option_and_then (facts_at objects) w ≡ option_and_then (facts c h) w
  at None e = refl
  at (Some o) e = facts_alive c h objects created o legal a (bound_alive h f name o e)

-- what a family's directory has
pub directory_agrees : (c : Config) (h : History) (t : TablesView) (f : Family) → Agrees c h t → DirectoryAgrees h f (directory_kept f t)
directory_agrees c h t Mq a = a.queues
directory_agrees c h t Sem a = a.semaphores
