-- A chmod and a chown that are accepted keep the tables the history's.
use Rattle.std.proofs.Common.{◌≡◌, ℕ, Bool, true, false, eqb, cond, List, Option, Some, None, is_some, refl, sym, ap, subst, ◌∙◌}
use Rattle.std.specs.Prelude.{unwrap_or}
use Rattle.std.specs.Option.{option_map}
use Rattle.std.proofs.lemmas.Bool.{eq-eqb, ne_eqb}
use Rattle.ipc_terms.specs.Names.{same_family}
use Rattle.ipc_terms.specs.Lists.{changed_first}
use Rattle.ipc_terms.specs.declared.binding.Binding.{Binding}
use Rattle.ipc_terms.specs.declared.facts.Facts.{Facts}
use Rattle.ipc_terms.specs.declared.ids.Family.{Family}
use Rattle.ipc_terms.specs.declared.ids.Family.TheVariants.{Mq, Sem}
use Rattle.ipc_terms.specs.declared.ids.Sid.{Sid}
use Rattle.ipc_terms.specs.declared.ids.Target.{Target}
use Rattle.ipc_terms.specs.declared.ids.Target.TheVariants.{Dir, Name}
use Rattle.ipc_terms.specs.declared.call.Call.{Call}
use Rattle.ipc_terms.specs.declared.call.Call.TheVariants.{Chmod, Chown}
use Rattle.ipc_terms.specs.declared.object.Object.{Object}
use Rattle.ipc_terms.specs.declared.rule.Rule.TheVariants.{Absent}
use Rattle.ipc_terms.specs.declared.record.Event.{Event}
use Rattle.ipc_terms.specs.declared.record.Event.TheVariants.{Do}
use Rattle.ipc_policy.specs.declared.config.Config.{Config}
use Rattle.ipc_policy.specs.declared.config.Held.{Held}
use Rattle.ipc_policy.specs.Decides.History.{History, after_accepted, unless, is_some_and, gathered_below}
use Rattle.ipc_policy.specs.Decides.Names.{Opening, is_bound, creations, bound}
use Rattle.ipc_policy.specs.Decides.Rules.{forbids, absent}
use Rattle.ipc_policy.specs.Decides.Verdict.{verdict}
use Rattle.ipc_policy.specs.Decides.Objects.{object, facts, directory, object_bits, directory_bits}
use Rattle.ipc_policy.specs.Decides.Descriptions.{held}
use Rattle.ipc_policy.specs.Decides.Life.{bindings, alive}
use Rattle.ipc_policy.specs.Follows.Grow.{named_after, held_after, bindings_after}
use Rattle.ipc_policy.proofs.Directories.Facts.{facts_left, facts_given, directory_grows}
use Rattle.ipc_policy.proofs.Histories.Grown.{grows}
use Rattle.ipc_policy.proofs.Histories.Known.{bound_iff}
use Rattle.ipc_policy.proofs.Histories.Unforbidden.{unforbidden, off}
use Rattle.ipc_policy.proofs.Holdings.Holding.{kept_all}
use Rattle.ipc_tables.specs.TablesView.{TablesView}
use Rattle.ipc_tables.specs.Objects.{is_number, facts_at, with_facts}
use Rattle.ipc_tables.specs.declared.tables.Owned.TheVariants.{Object as OwnedObject, Directory as OwnedDirectory}
use Rattle.ipc_tables.specs.Steps.{after_facts}
use Rattle.ipc_state.specs.Agrees.{Agrees, IsCore, SessionsAgree, DescriptionsAgree, ChargesAgree, Inside, inside, row_made, row_with}
use Rattle.ipc_state.specs.Meetings.{by_name, object_bound}
use Rattle.ipc_state.specs.Changes.{changing, changed_by}
use Rattle.ipc_state.proofs.Gathered.{gathered_changed}
use Rattle.ipc_state.proofs.Lookups.{row_other, row_own, facts_alive, bound_alive}
use Rattle.ipc_state.proofs.ObjectTables.{directory_kept, objects_kept, row_kept, alive_kept, descriptions_kept}
use Rattle.ipc_state.proofs.ChargeTables.{charged_same, limit_left, charges_kept}
use Rattle.ipc_state.proofs.Opens.{Ends, made_left}
use Rattle.ipc_policy.specs.Decides.Registrations.{registered}
use Rattle.ipc_policy.proofs.Queues.RegisteredSteps.{registered_stays}
use Rattle.ipc_state.proofs.Accepting.{others_inside}
use Rattle.ipc_state.proofs.Opened.{sessions_apart}

-- a chmod or a chown says nothing of names, objects and descriptions
record Changes (e : Event) : Type 0 where
  ends : Ends e
  calm' : (c : Config) (h : History) (o : ℕ) → registered c (after_accepted h e) o ≡ registered c h o
  named' : (o n : ℕ) (b : Family → List ℕ → Bool) (w : Option Opening) → named_after o e b n w ≡ unless (λ x. false) w
  held' : (d i n : ℕ) (b : Family → List ℕ → Option ℕ) (w : Option Held) → held_after d e i b n w ≡ unless (λ x. false) w
  bindings' : (f : Family) (n : ℕ) (b : Family → List ℕ → Bool) (w : List Binding) → bindings_after f e b n w ≡ w

changes_of : (sid : Sid) (call : Call) (target : Target) → changing call ≡ Some target → Changes (Do sid call)
changes_of sid (Chmod mode target) meant k = record { calm' = λ c h o. registered_stays c h _ o refl (λ x k. refl); ends = record { none = refl; apart = record { still = refl; hellos' = λ n. refl; user' = λ s n w. refl; live' = λ s n b. refl; mask' = λ s m. refl; limit' = λ u before. refl }; named' = λ o n b w. refl; opens' = λ n. refl; nonblock' = λ d n was. refl; creations' = λ n b. refl }; named' = λ o n b w. refl; held' = λ d i n b w. refl; bindings' = λ f n b w. refl }
changes_of sid (Chown owner group target) meant k = record { calm' = λ c h o. registered_stays c h _ o refl (λ x k. refl); ends = record { none = refl; apart = record { still = refl; hellos' = λ n. refl; user' = λ s n w. refl; live' = λ s n b. refl; mask' = λ s m. refl; limit' = λ u before. refl }; named' = λ o n b w. refl; opens' = λ n. refl; nonblock' = λ d n was. refl; creations' = λ n b. refl }; named' = λ o n b w. refl; held' = λ d i n b w. refl; bindings' = λ f n b w. refl }
changes_of sid call meant k = absurd cc

-- what it leaves of the tables
record Left (c : Config) (h k : History) (t : TablesView) : Type 0 where
  sessions : SessionsAgree c k t.sessions
  descriptions : DescriptionsAgree k t.descriptions
  charges : ChargesAgree c k t.charges
  bindings' : (f : Family) → bindings k f ≡ bindings h f
  alive' : (o : ℕ) → alive k o ≡ alive h o
  object' : (o : ℕ) → object c k o ≡ object c h o
  inside' : (o : ℕ) → inside c k o ≡ inside c h o
  creations' : creations k ≡ creations h

left_by : (c : Config) (h : History) (t : TablesView) (e : Event) → Changes e → Agrees c h t → Left c h (after_accepted h e) t
left_by c h t e p a =
    let g = grows c h e in
    let held' = λ (d : ℕ). g.held_by d ∙ p.held' d _ _ _ _ ∙ kept_all (held h d) in
    let opens' = g.open_count ∙ p.ends.opens' _ in
    let alive' = λ (o : ℕ). alive_kept h (after_accepted h e) o (g.named_by o ∙ p.named' o _ _ _ ∙ kept_all _) held' opens' in
    let object' = λ (o : ℕ). g.object_of o ∙ made_left e p.ends.none o _ _ _ _ in
    let creations' = g.creation_count ∙ p.ends.creations' _ _ in
    record {
      sessions = sessions_apart c h e t p.ends.apart a;
      descriptions = descriptions_kept h (after_accepted h e) t.descriptions held' (λ d. g.nonblock_of d ∙ p.ends.nonblock' d _ _) opens' a.descriptions;
      bindings' = λ f. g.bindings_of f ∙ p.bindings' f _ _ _;
      charges = charges_kept c h (after_accepted h e) t.charges (λ u. limit_left c h e u (p.ends.apart.limit' u h)) (λ u. charged_same c h (after_accepted h e) u alive' object' creations') a.charges;
      alive' = alive';
      object' = object';
      inside' = λ o. others_inside c h e o p.ends.apart.still (p.calm' c h o) (made_left e p.ends.none o _ _ _ _);
      creations' = creations';
    }

-- of a directory
in_directory : (c : Config) (h k : History) (t : TablesView) (f : Family) (x : Facts) → Left c h k t → ((g : Family) → directory k g ≡ cond (same_family f g) x (directory h g)) → ((o : ℕ) → facts c k o ≡ facts c h o) → Agrees c h t → Agrees c k (after_facts t (OwnedDirectory f) x)
in_directory c h k t Mq x l d o a = record {
  sessions = l.sessions;
  queues = record { bound = a.queues.bound ∙ sym (l.bindings' Mq); facts = sym (d Mq) };
  semaphores = directory_kept h k Sem t.semaphores (l.bindings' Sem) (d Sem) a.semaphores;
  objects = objects_kept c h k t.objects t.created l.alive' l.object' o l.inside' l.creations' a.objects;
  descriptions = l.descriptions;
  charges = l.charges;
}
in_directory c h k t Sem x l d o a = record {
  sessions = l.sessions;
  queues = directory_kept h k Mq t.queues (l.bindings' Mq) (d Mq) a.queues;
  semaphores = record { bound = a.semaphores.bound ∙ sym (l.bindings' Sem); facts = sym (d Sem) };
  objects = objects_kept c h k t.objects t.created l.alive' l.object' o l.inside' l.creations' a.objects;
  descriptions = l.descriptions;
  charges = l.charges;
}

directory_given : (h : History) (sid : Sid) (call : Call) (f : Family) → changing call ≡ Some (Dir f) → (g : Family) → directory (after_accepted h (Do sid call)) g ≡ cond (same_family f g) (changed_by call (directory h f)) (directory h g)
directory_given h sid (Chmod mode target) f k g =
    let same : target ≡ Dir f = cc in
    directory_grows h (Do sid (Chmod mode target)) g ∙ rw same (at f g) where
      at : (f g : Family) → record { owner = (directory h g).owner; group = (directory h g).group; mode = unwrap_or (option_map directory_bits (cond (same_family f g) (Some mode) None)) (directory h g).mode } ≡ cond (same_family f g) (record (directory h f) { mode = directory_bits mode }) (directory h g)
      at Mq Mq = refl
      at Mq Sem = refl
      at Sem Mq = refl
      at Sem Sem = refl
directory_given h sid (Chown owner group target) f k g =
    let same : target ≡ Dir f = cc in
    directory_grows h (Do sid (Chown owner group target)) g ∙ rw same (at f g) where
      at : (f g : Family) → record { owner = unwrap_or (cond (same_family f g) owner None) (directory h g).owner; group = unwrap_or (cond (same_family f g) group None) (directory h g).group; mode = (directory h g).mode } ≡ cond (same_family f g) (record (directory h f) { owner = unwrap_or owner (directory h f).owner; group = unwrap_or group (directory h f).group }) (directory h g)
      at Mq Mq = refl
      at Mq Sem = refl
      at Sem Mq = refl
      at Sem Sem = refl
directory_given h sid call f k g = absurd cc

facts_apart : (c : Config) (h : History) (sid : Sid) (call : Call) (f : Family) → changing call ≡ Some (Dir f) → (o : ℕ) → facts c (after_accepted h (Do sid call)) o ≡ facts c h o
facts_apart c h sid (Chmod mode target) f k o =
    let same : target ≡ Dir f = cc in
    rw same (facts_left c h sid (Chmod mode (Dir f)) refl o refl refl refl)
facts_apart c h sid (Chown owner group target) f k o =
    let same : target ≡ Dir f = cc in
    rw same (facts_left c h sid (Chown owner group (Dir f)) refl o refl refl refl)
facts_apart c h sid call f k o = absurd cc

pub agrees_in_directory : (c : Config) (h : History) (t : TablesView) (sid : Sid) (call : Call) (f : Family) → changing call ≡ Some (Dir f) → Agrees c h t → Agrees c (after_accepted h (Do sid call)) (after_facts t (OwnedDirectory f) (changed_by call (directory h f)))
agrees_in_directory c h t sid call f k a =
    in_directory c h (after_accepted h (Do sid call)) t f (changed_by call (directory h f)) (left_by c h t (Do sid call) (changes_of sid call (Dir f) k) a) (directory_given h sid call f k) (facts_apart c h sid call f k) a

-- of an object
row_given : (o : ℕ) (x : Facts) (b : Bool) (w : Option Object) (v : Option Facts) (at : Facts) (m : Inside) → v ≡ Some at → cond b (row_made o w (Some x) m) None ≡ option_map (with_facts x) (cond b (row_made o w v m) None)
row_given o x true None v at m e = refl
row_given o x true (Some y) v at m e = rw e refl
row_given o x false w v at m e = refl

in_object : (c : Config) (h k : History) (t : TablesView) (o : ℕ) (x at : Facts) → Left c h k t → ((f : Family) → directory k f ≡ directory h f) → facts c h o ≡ Some at → facts c k o ≡ Some x → ((i : ℕ) → (i ≡ o → ⊥) → facts c k i ≡ facts c h i) → Agrees c h t → Agrees c k (after_facts t (OwnedObject o) x)
in_object c h k t o x at l d was is others a = record {
  sessions = l.sessions;
  queues = directory_kept h k Mq t.queues (l.bindings' Mq) (d Mq) a.queues;
  semaphores = directory_kept h k Sem t.semaphores (l.bindings' Sem) (d Sem) a.semaphores;
  objects = record {
    rows =
        ap (changed_first (is_number o) (with_facts x)) a.objects.rows
        ∙ gathered_changed (is_number o) (with_facts x) (row_with c h (inside c h)) (row_with c k (inside c k)) (creations h) o
        (λ i ne. row_other o i (alive h i) (object c h i) (facts c h i) (inside c h i) (ne_eqb i o ne))
        (λ row e. row_own o (alive h o) (object c h o) (facts c h o) (inside c h o) row e)
        (λ i ne. row_kept i (alive k i) (alive h i) (object c k i) (object c h i) (facts c k i) (facts c h i) (inside c k i) (inside c h i) (l.alive' i) (l.object' i) (others i ne) (l.inside' i))
        (row_kept o (alive k o) (alive h o) (object c k o) (object c h o) (facts c k o) (Some x) (inside c k o) (inside c h o) (l.alive' o) (l.object' o) is (l.inside' o)
        ∙ row_given o x (alive h o) (object c h o) (facts c h o) at (inside c h o) was)
        ∙ ap (gathered_below (row_with c k (inside c k))) (sym l.creations');
    count = a.objects.count ∙ sym l.creations';
  };
  descriptions = l.descriptions;
  charges = l.charges;
}

meant_own : (h : History) (f : Family) (name : List ℕ) (o : ℕ) → bound h f name ≡ Some o → is_some_and (λ n. eqb n o) (bound h f name) ≡ true
meant_own h f name o e = ap (is_some_and (λ n. eqb n o)) e ∙ eq-eqb o o refl

meant_other : (h : History) (f : Family) (name : List ℕ) (o i : ℕ) → bound h f name ≡ Some o → (i ≡ o → ⊥) → is_some_and (λ n. eqb n i) (bound h f name) ≡ false
meant_other h f name o i e ne = ap (is_some_and (λ n. eqb n i)) e ∙ ne_eqb o i (λ q. ne (sym q))

given_if : {A : Type 0} (b : Bool) (w : Option A) → b ≡ false → cond b w None ≡ None
given_if b w e = rw e refl

object_given : (c : Config) (h : History) (sid : Sid) (call : Call) (f : Family) (name : List ℕ) (o : ℕ) (at : Facts) → changing call ≡ Some (Name f name) → bound h f name ≡ Some o → facts c h o ≡ Some at → facts c (after_accepted h (Do sid call)) o ≡ Some (changed_by call at)
object_given c h sid (Chmod mode target) f name o at k e is =
    let same : target ≡ Name f name = cc in
    rw same (facts_given c h (Do sid (Chmod mode (Name f name))) refl o at is ∙ all (is_some_and (λ n. eqb n o) (bound h f name)) (meant_own h f name o e)) where
      all : (b : Bool) → b ≡ true → Some (record { owner = at.owner; group = at.group; mode = unwrap_or (option_map object_bits (cond b (Some mode) None)) at.mode }) ≡ Some (record at { mode = object_bits mode })
      all b e = rw e refl
object_given c h sid (Chown owner group target) f name o at k e is =
    let same : target ≡ Name f name = cc in
    rw same (facts_given c h (Do sid (Chown owner group (Name f name))) refl o at is ∙ all (is_some_and (λ n. eqb n o) (bound h f name)) (meant_own h f name o e)) where
      all : (b : Bool) → b ≡ true → Some (record { owner = unwrap_or (cond b owner None) at.owner; group = unwrap_or (cond b group None) at.group; mode = at.mode }) ≡ Some (record at { owner = unwrap_or owner at.owner; group = unwrap_or group at.group })
      all b e = rw e refl
object_given c h sid call f name o at k e is = absurd cc

others_left : (c : Config) (h : History) (sid : Sid) (call : Call) (f : Family) (name : List ℕ) (o i : ℕ) → changing call ≡ Some (Name f name) → bound h f name ≡ Some o → (i ≡ o → ⊥) → facts c (after_accepted h (Do sid call)) i ≡ facts c h i
others_left c h sid (Chmod mode target) f name o i k e ne =
    let same : target ≡ Name f name = cc in
    rw same (facts_left c h sid (Chmod mode (Name f name)) refl i refl refl (given_if _ (Some mode) (meant_other h f name o i e ne)))
others_left c h sid (Chown owner group target) f name o i k e ne =
    let same : target ≡ Name f name = cc in
    rw same (facts_left c h sid (Chown owner group (Name f name)) refl i (given_if _ owner (meant_other h f name o i e ne)) (given_if _ group (meant_other h f name o i e ne)) refl)
others_left c h sid call f name o i k e ne = absurd cc

directory_apart : (h : History) (sid : Sid) (call : Call) (f : Family) (name : List ℕ) → changing call ≡ Some (Name f name) → (g : Family) → directory (after_accepted h (Do sid call)) g ≡ directory h g
directory_apart h sid (Chmod mode target) f name k g =
    let same : target ≡ Name f name = cc in
    rw same (directory_grows h (Do sid (Chmod mode (Name f name))) g)
directory_apart h sid (Chown owner group target) f name k g =
    let same : target ≡ Name f name = cc in
    rw same (directory_grows h (Do sid (Chown owner group (Name f name))) g)
directory_apart h sid call f name k g = absurd cc

pub agrees_in_object : (c : Config) (h : History) (t : TablesView) (sid : Sid) (call : Call) (f : Family) (name : List ℕ) (o : ℕ) (at : Facts) → changing call ≡ Some (Name f name) → bound h f name ≡ Some o → facts c h o ≡ Some at → Agrees c h t → Agrees c (after_accepted h (Do sid call)) (after_facts t (OwnedObject o) (changed_by call at))
agrees_in_object c h t sid call f name o at k e is a =
    in_object c h (after_accepted h (Do sid call)) t o (changed_by call at) at (left_by c h t (Do sid call) (changes_of sid call (Name f name) k) a) (directory_apart h sid call f name k) is (object_given c h sid call f name o at k e is) (λ i ne. others_left c h sid call f name o i k e ne) a

-- where one of a name is accepted, the name is bound
bound_there : (c : Config) (h : History) (sid : Sid) (call : Call) (f : Family) (name : List ℕ) → changing call ≡ Some (Name f name) → verdict c h (Do sid call) ≡ None → is_bound h f name ≡ true
unfolding forbids absent
bound_there c h sid (Chmod mode target) f name k accepted =
    let same : target ≡ Name f name = cc in
    off _ (unforbidden c h (Do sid (Chmod mode (Name f name))) (subst (λ t. verdict c h (Do sid (Chmod mode t)) ≡ None) same accepted) Absent)
bound_there c h sid (Chown owner group target) f name k accepted =
    let same : target ≡ Name f name = cc in
    off _ (unforbidden c h (Do sid (Chown owner group (Name f name))) (subst (λ t. verdict c h (Do sid (Chown owner group t)) ≡ None) same accepted) Absent)
bound_there c h sid call f name k accepted = absurd cc

pub changed_bound : (c : Config) (h : History) (sid : Sid) (call : Call) (f : Family) (name : List ℕ) → changing call ≡ Some (Name f name) → verdict c h (Do sid call) ≡ None → is_some (bound h f name) ≡ true
changed_bound c h sid call f name k accepted = sym (bound_iff h f name) ∙ bound_there c h sid call f name k accepted

-- the name that one names is bound to what it means, and that has what is looked up
pub named_by_change : (h : History) (sid : Sid) (call : Call) (f : Family) (name : List ℕ) → changing call ≡ Some (Name f name) → by_name (object_bound h) (Do sid call) ≡ bound h f name
named_by_change h sid (Chmod mode target) f name k = let same : target ≡ Name f name = cc in rw same refl
named_by_change h sid (Chown owner group target) f name k = let same : target ≡ Name f name = cc in rw same refl
named_by_change h sid call f name k = absurd cc

pub facts_meant_is : (c : Config) (h : History) (t : TablesView) (f : Family) (name : List ℕ) (o : ℕ) (w : Option Facts) → IsCore c h t → bound h f name ≡ Some o → w ≡ facts_at t.objects o → facts c h o ≡ w
facts_meant_is c h t f name o w k is found = sym (facts_alive c h t.objects t.created o k.legal k.agrees.objects (bound_alive h f name o is)) ∙ sym found
