-- Accepted opens, unlinks and closes of either family keep the tables the history's.
use Rattle.std.proofs.Common.{◌≡◌, ℕ, ◌<◌, Bool, true, false, not, ◌&&◌, ◌||◌, eqb, cond, List, [], ◌∷◌, ◌++◌, filter, Option, Some, None, is_some, refl, sym, ap, subst, ◌∙◌, arith}
use Rattle.std.specs.Option.{option_or, option_map}
use Rattle.std.proofs.lemmas.Bool.{eqb-true, eq-eqb, ne_eqb, and_parts}
use Rattle.ipc_terms.specs.Flags.{has_create}
use Rattle.ipc_terms.specs.Names.{same_family, same_name}
use Rattle.ipc_terms.specs.Objects.{value_asked}
use Rattle.ipc_terms.specs.declared.binding.Binding.{Binding}
use Rattle.ipc_terms.specs.declared.ids.Sid.{Sid}
use Rattle.ipc_terms.specs.declared.ids.Desc.{Desc}
use Rattle.ipc_terms.specs.declared.ids.Family.{Family}
use Rattle.ipc_terms.specs.declared.ids.Family.TheVariants.{Mq, Sem}
use Rattle.ipc_terms.specs.declared.record.Event.{Event}
use Rattle.ipc_access.specs.declared.class.Cred.{Cred}
use Rattle.ipc_policy.specs.declared.config.Config.{Config}
use Rattle.ipc_policy.specs.declared.config.Held.{Held}
use Rattle.ipc_policy.specs.Decides.History.{History, after_accepted, unless, any_below}
use Rattle.ipc_policy.specs.Decides.Sessions.{cred, mask}
use Rattle.ipc_policy.specs.Decides.Names.{Opening, Naming, nonblock_asked, unlinks, is_bound, creations, bound}
use Rattle.ipc_policy.specs.Decides.Objects.{made_by, first_facts}
use Rattle.ipc_policy.specs.Decides.Descriptions.{opens, opened, held}
use Rattle.ipc_policy.specs.Decides.Life.{named, bindings, gives_object, alive}
use Rattle.ipc_policy.specs.Decides.Semaphores.{with_first}
use Rattle.ipc_policy.specs.Decides.Bodies.{semaphore}
use Rattle.ipc_policy.specs.Follows.Grow.{is_new}
use Rattle.ipc_policy.proofs.Holdings.Holding.{kept_all}
use Rattle.ipc_policy.proofs.Histories.Grown.{grows}
use Rattle.ipc_policy.proofs.Lists.Gathering.{filter_all}
use Rattle.ipc_policy.proofs.Histories.Known.{bound_iff}
use Rattle.ipc_policy.proofs.Directories.Creating.{not_created_empty, not_created_still}
use Rattle.ipc_policy.proofs.Blocked.ParkedSteps.{parked_by_others, queue_by_others}
use Rattle.ipc_policy.proofs.Blocked.WaitSteps.{semaphore_by_others}
use Rattle.ipc_names.specs.Directory.{Directory}
use Rattle.ipc_descr.specs.Descriptions.{Descriptions, is_of, is_desc}
use Rattle.ipc_tables.specs.Charging.{settled}
use Rattle.ipc_tables.specs.TablesView.{TablesView, is_kept}
use Rattle.ipc_tables.specs.Steps.{with_binding, without_binding, with_object, living, after_found, after_created, after_close, after_unlink}
use Rattle.ipc_tables.specs.declared.tables.Grant.{Grant}
use Rattle.ipc_state.specs.Agrees.{Agrees, IsCore, SessionsAgree, DirectoryAgrees, DescriptionsAgree, inside}
use Rattle.ipc_state.proofs.ChargeTables.{charged_same, limit_left, charges_kept, charges_created}
use Rattle.ipc_state.proofs.Lookups.{bound_alive}
use Rattle.ipc_state.proofs.SessionTables.{sessions_kept}
use Rattle.ipc_policy.proofs.Directories.Facts.{GivesNothing, facts_made, directory_left}
use Rattle.ipc_state.proofs.ObjectTables.{directory_kept, objects_kept, objects_created, descriptions_kept, descriptions_dropped}
use Rattle.ipc_state.proofs.Opens.{Apart, Opens, Ends, Unlinks, Closes, made_open, made_left, body_made, descriptions_opened, alive_opened}
use Rattle.ipc_policy.specs.Decides.Registrations.{registered}
use Rattle.ipc_policy.proofs.Queues.RegisteredSteps.{not_created_unregistered}
use Rattle.ipc_state.proofs.Accepting.{others_inside, within}
use Rattle.ipc_state.proofs.Releases.{gone}

-- the sessions are as they were
pub sessions_apart : (c : Config) (h : History) (e : Event) (t : TablesView) → Apart e → Agrees c h t → SessionsAgree c (after_accepted h e) t.sessions
sessions_apart c h e t p a = sessions_kept c h _ e t.sessions (grows c h e) (p.hellos' _) (λ s. p.user' s _ _) (λ s. p.live' s _ _) (λ s. p.mask' s _) (λ s. parked_by_others c h e s p.still) a.sessions

-- a directory, where its bindings are as they were
directory_same : (h : History) (e : Event) (f : Family) (t : Directory) → GivesNothing e → bindings (after_accepted h e) f ≡ bindings h f → DirectoryAgrees h f t → DirectoryAgrees (after_accepted h e) f t
directory_same h e f t p b a = directory_kept h (after_accepted h e) f t b (directory_left h e p f) a

-- the grant of an open
abbrev pub granted_by : Opening → Grant
granted_by asked = record { session = asked.session; access = asked.access; nonblock = nonblock_asked asked.kind asked.flags }

-- an accepted open of what is bound
new_of_bound : (h : History) (asked : Opening) (o : ℕ) → bound h asked.family asked.name ≡ Some o → is_new asked (is_bound h) ≡ false
new_of_bound h asked o e = rw (bound_iff h asked.family asked.name ∙ ap is_some e) (and_false (has_create asked.flags)) where
  and_false : (b : Bool) → (b && false) ≡ false
  and_false true = refl
  and_false false = refl

found_by : (h : History) (asked : Opening) (o : ℕ) → bound h asked.family asked.name ≡ Some o → opened h asked ≡ Some o
found_by h asked o is = rw is refl

-- the object that is opened was alive, and the others are as they were
found_at : (n : Bool) (b : Bool) (any : Bool) (was : Bool) → (n || any) ≡ was → (b ≡ true → was ≡ true) → (n || (b || any)) ≡ was
found_at n true any was e live = or_true n ∙ sym (live refl) where
  or_true : (b : Bool) → (b || true) ≡ true
  or_true true = refl
  or_true false = refl
found_at n false any was e live = e

alive_is_so : (h : History) (o : ℕ) → (is_some (named h o) || any_below (λ d. gives_object o (held h d)) (opens h)) ≡ alive h o
unfolding alive
alive_is_so h o = refl

found_alive : (c : Config) (h : History) (e : Event) (asked : Opening) (b o : ℕ) → Opens e asked → bound h asked.family asked.name ≡ Some b → alive (after_accepted h e) o ≡ alive h o
found_alive c h e asked b o p is =
    alive_opened c h (after_accepted h e) e asked b o (grows c h e) p (found_by h asked b is)
    ∙ rw (new_of_bound h asked b is) (found_at (is_some (named h o)) (eqb b o) (any_below (λ d. gives_object o (held h d)) (opens h)) (alive h o) (alive_is_so h o) (λ q. ap (alive h) (sym (eqb-true b o q)) ∙ bound_alive h asked.family asked.name b is))

-- an open that creates nothing makes nothing
made_none : {A : Type 0} (new b : Bool) (w v : A) → new ≡ false → cond (new && b) w v ≡ v
made_none new b w v e = rw e refl

pub agrees_found : (c : Config) (h : History) (t : TablesView) (e : Event) (asked : Opening) (o : ℕ) → Opens e asked → Agrees c h t → bound h asked.family asked.name ≡ Some o → Agrees c (after_accepted h e) (after_found t (granted_by asked) o)
agrees_found c h t e asked o p a is =
    let g = grows c h e in
    let old = new_of_bound h asked o is in
    record {
      sessions = sessions_apart c h e t p.apart a;
      queues = directory_same h e Mq t.queues p.gives (g.bindings_of Mq ∙ p.bindings' Mq _ _ _ ∙ made_none _ _ _ _ old) a.queues;
      semaphores = directory_same h e Sem t.semaphores p.gives (g.bindings_of Sem ∙ p.bindings' Sem _ _ _ ∙ made_none _ _ _ _ old) a.semaphores;
      objects = objects_kept c h _ t.objects t.created (λ i. found_alive c h e asked o i p is) (λ i. g.object_of i ∙ made_open e asked p.is i _ _ _ _ ∙ made_none _ _ _ _ old) (λ i. facts_made c h e p.gives i ∙ made_open e asked p.is i _ _ _ _ ∙ made_none _ _ _ _ old)
          (λ i. others_inside c h e i p.apart.still (p.calm' c h i) (made_open e asked p.is i _ _ _ _ ∙ made_none _ _ _ _ old))
          (g.creation_count ∙ p.creations' _ _ ∙ rw old refl) a.objects;
      descriptions = descriptions_opened c h _ t.descriptions e asked o g p a.descriptions (found_by h asked o is);
      charges = charges_kept c h _ t.charges (λ u. limit_left c h e u (p.apart.limit' u h)) (λ u. charged_same c h _ u (λ i. found_alive c h e asked o i p is) (λ i. g.object_of i ∙ made_open e asked p.is i _ _ _ _ ∙ made_none _ _ _ _ old) (g.creation_count ∙ p.creations' _ _ ∙ rw old refl)) a.charges;
    }

-- an accepted open that creates
created_opened : (h : History) (asked : Opening) (o : ℕ) → is_new asked (is_bound h) ≡ true → bound h asked.family asked.name ≡ None → o ≡ creations h → opened h asked ≡ Some o
created_opened h asked o new none count = rw (none, (and_parts (has_create asked.flags) (not (is_bound h asked.family asked.name)) new).0) (ap Some (sym count))

created_other : (c : Config) (h : History) (e : Event) (asked : Opening) (o : ℕ) → Opens e asked → is_new asked (is_bound h) ≡ true → bound h asked.family asked.name ≡ None → o < creations h → alive (after_accepted h e) o ≡ alive h o
created_other c h e asked o p new none lt =
    let other : eqb (creations h) o ≡ false = ne_eqb (creations h) o (λ (q : creations h ≡ o). omega arith) in
    alive_opened c h (after_accepted h e) e asked (creations h) o (grows c h e) p (created_opened h asked (creations h) new none refl)
    ∙ rw (new, other) (alive_is_so h o)

created_alive : (c : Config) (h : History) (e : Event) (asked : Opening) → Opens e asked → is_new asked (is_bound h) ≡ true → bound h asked.family asked.name ≡ None → alive (after_accepted h e) (creations h) ≡ true
created_alive c h e asked p new none =
    alive_opened c h (after_accepted h e) e asked (creations h) (creations h) (grows c h e) p (created_opened h asked (creations h) new none refl)
    ∙ rw (new, eq-eqb (creations h) (creations h) refl) refl

-- the name stands at the end of its family's directory
names_bound : (c : Config) (h : History) (t : TablesView) (e : Event) (f : Family) (name : List ℕ) → GivesNothing e → Agrees c h t → ((g : Family) → bindings (after_accepted h e) g ≡ cond (same_family f g) (bindings h g ++ record { name = name; object = creations h } ∷ []) (bindings h g)) → DirectoryAgrees (after_accepted h e) Mq (with_binding f name t.created t).queues × DirectoryAgrees (after_accepted h e) Sem (with_binding f name t.created t).semaphores
names_bound c h t e Mq name p a b = (
  record { bound = ap (λ l. l ++ record { name = name; object = t.created } ∷ []) a.queues.bound ∙ ap (λ n. bindings h Mq ++ record { name = name; object = n } ∷ []) a.objects.count ∙ sym (b Mq); facts = a.queues.facts ∙ sym (directory_left h e p Mq) },
  directory_same h e Sem t.semaphores p (b Sem) a.semaphores,
)
names_bound c h t e Sem name p a b = (
  directory_same h e Mq t.queues p (b Mq) a.queues,
  record { bound = ap (λ l. l ++ record { name = name; object = t.created } ∷ []) a.semaphores.bound ∙ ap (λ n. bindings h Sem ++ record { name = name; object = n } ∷ []) a.objects.count ∙ sym (b Sem); facts = a.semaphores.facts ∙ sym (directory_left h e p Sem) },
)

-- with the name bound, the other tables are as they were
rest_of : (f : Family) (name : List ℕ) (o : ℕ) (t : TablesView) → with_binding f name o t ≡ record t { queues = (with_binding f name o t).queues; semaphores = (with_binding f name o t).semaphores }
rest_of Mq name o t = refl
rest_of Sem name o t = refl

new_is : {A : Type 0} (new b : Bool) (w v : A) → new ≡ true → cond (new && b) w v ≡ cond b w v
new_is new b w v e = rw e refl

created_at : {A : Type 0} (n : ℕ) (w v : A) → cond (eqb n n) w v ≡ w
created_at n w v = rw (eq-eqb n n refl) refl

made_who : {A B : Type 0} (make : A → B) (w : Option A) (who : A) (was : Option B) → w ≡ Some who → option_or (option_map make w) was ≡ Some (make who)
made_who make w who was e = rw e refl

other_at : {A : Type 0} (n o : ℕ) (w v : A) → o < n → cond (eqb n o) w v ≡ v
other_at n o w v lt = rw (ne_eqb n o (λ (q : n ≡ o). absurd (omega arith))) refl

pub agrees_created : (c : Config) (h : History) (t : TablesView) (e : Event) (asked : Opening) (who : Cred) → Opens e asked → Agrees c h t → is_new asked (is_bound h) ≡ true → bound h asked.family asked.name ≡ None → cred c h asked.session.0 ≡ Some who → Agrees c (after_accepted h e) (after_created t (granted_by asked) asked.name (made_by c asked who) (first_facts asked (mask h asked.session.0) who))
agrees_created c h t e asked who p a new none is =
    let g = grows c h e in
    let k = after_accepted h e in
    let n = creations h in
    let names = names_bound c h t e asked.family asked.name p.gives a (λ f. g.bindings_of f ∙ p.bindings' f n (is_bound h) (bindings h f) ∙ new_is _ _ _ _ new) in
    let first = λ (o : ℕ). made_open e asked p.is o n (is_bound h) (λ x. value_asked x.kind) None ∙ new_is _ _ _ _ new in
    subst (λ f. Agrees c k (with_object (with_binding f asked.name t.created t) (granted_by asked) (made_by c asked who) (first_facts asked (mask h asked.session.0) who))) (sym (p.family' c))
    (subst (λ u. Agrees c k (with_object u (granted_by asked) (made_by c asked who) (first_facts asked (mask h asked.session.0) who))) (sym (rest_of asked.family asked.name t.created t)) (record {
      sessions = sessions_apart c h e t p.apart a;
      queues = names.0;
      semaphores = names.1;
      objects = objects_created c h k t.objects t.created (made_by c asked who) (first_facts asked (mask h asked.session.0) who) (g.creation_count ∙ p.creations' n (is_bound h) ∙ rw new refl)
          (λ o lt. created_other c h e asked o p new none lt)
          (λ o lt. g.object_of o ∙ made_open e asked p.is o n (is_bound h) _ _ ∙ new_is _ _ _ _ new ∙ other_at n o _ _ lt)
          (λ o lt. facts_made c h e p.gives o ∙ made_open e asked p.is o n (is_bound h) _ _ ∙ new_is _ _ _ _ new ∙ other_at n o _ _ lt)
          (λ o lt. others_inside c h e o p.apart.still (p.calm' c h o) (first o ∙ other_at n o _ _ lt))
          (created_alive c h e asked p new none)
          (g.object_of n ∙ made_open e asked p.is n n (is_bound h) _ _ ∙ new_is _ _ _ _ new ∙ created_at n _ _ ∙ made_who (made_by c asked) _ who _ is)
          (facts_made c h e p.gives n ∙ made_open e asked p.is n n (is_bound h) _ _ ∙ new_is _ _ _ _ new ∙ created_at n _ _ ∙ made_who (first_facts asked (mask h asked.session.0)) _ who _ is)
          (body_made c asked.kind _ _ _ (queue_by_others c h e n p.apart.still ∙ not_created_empty c h n (omega arith)) (p.calm' c h n ∙ not_created_unregistered c h n (omega arith))
          (semaphore_by_others c h e n p.apart.still ∙ ap (λ v. with_first v (semaphore c h n)) (first n ∙ created_at n _ _) ∙ ap (with_first (option_or (value_asked asked.kind) None)) (not_created_still c h n (omega arith))))
          a.objects;
      descriptions = descriptions_opened c h k t.descriptions e asked t.created g p a.descriptions (created_opened h asked t.created new none a.objects.count);
      charges = charges_created c h k (made_by c asked who) t.charges (λ u. limit_left c h e u (p.apart.limit' u h)) (g.creation_count ∙ p.creations' n (is_bound h) ∙ rw new refl)
          (λ o lt. created_other c h e asked o p new none lt)
          (λ o lt. g.object_of o ∙ made_open e asked p.is o n (is_bound h) _ _ ∙ new_is _ _ _ _ new ∙ other_at n o _ _ lt)
          (created_alive c h e asked p new none)
          (g.object_of n ∙ made_open e asked p.is n n (is_bound h) _ _ ∙ new_is _ _ _ _ new ∙ created_at n _ _ ∙ made_who (made_by c asked) _ who _ is)
          a.charges;
    }))

-- an event that opens nothing leaves what stands in the objects, but for registrations
pub ends_inside : (c : Config) (h : History) (e : Event) (o : ℕ) → Ends e → inside c (after_accepted h e) o ≡ record (inside c h o) { registered = registered c (after_accepted h e) o }
ends_inside c h e o p = within c h e o p.apart.still (made_left e p.none o _ _ _ _)

-- an event that ends descriptions or names, by the directories and the descriptions that it leaves
gone_by : (c : Config) (h : History) (t : TablesView) (e : Event) (queues' semaphores' : Directory) (d : Descriptions) (w : ℕ → Held → Bool) (v : ℕ → ℕ → Bool) → Ends e → GivesNothing e → IsCore c h t → ((i : ℕ) → held (after_accepted h e) i ≡ unless (w i) (held h i)) → ((o : ℕ) → registered c (after_accepted h e) o ≡ unless (λ x. v x.session.0 x.desc.0) (registered c h o)) → ((i : ℕ) (y : Held) → w i y ≡ v y.session.0 i) → DirectoryAgrees (after_accepted h e) Mq queues' → DirectoryAgrees (after_accepted h e) Sem semaphores' → DescriptionsAgree (after_accepted h e) d → Agrees c (after_accepted h e) (record t { queues = queues'; semaphores = semaphores'; objects = living queues' semaphores' d.rows t.objects; descriptions = d; charges = settled (is_kept queues' semaphores' d.rows) t.objects t.charges })
gone_by c h t e queues' semaphores' d w v p gives core held' registered' by_session mq sem descriptions' =
    let a = core.agrees in
    let g = grows c h e in
    gone c h (after_accepted h e) e t t.sessions t.objects queues' semaphores' d (inside c h) (λ asked. unlinks asked.family asked.name e) w g
    (λ o. g.named_by o ∙ p.named' o _ _ _)
    held'
    (g.open_count ∙ p.opens' _)
    (g.creation_count ∙ p.creations' _ _)
    (λ o. g.object_of o ∙ made_left e p.none o _ _ _ _)
    (λ o. facts_made c h e gives o ∙ made_left e p.none o _ _ _ _)
    (λ o. ends_inside c h e o p)
    (λ o. refl)
    v
    registered'
    by_session
    a.objects.rows
    core.legal
    (λ u. limit_left c h e u (p.apart.limit' u h))
    (sessions_apart c h e t p.apart a)
    mq
    sem
    descriptions'
    a

-- an accepted close
pub agrees_closed : (c : Config) (h : History) (t : TablesView) (e : Event) (sid : Sid) (desc : Desc) → Closes e sid desc → IsCore c h t → Agrees c (after_accepted h e) (after_close t sid.0 desc.0)
agrees_closed c h t e sid desc p core =
    let a = core.agrees in
    let g = grows c h e in
    let held' = λ (i : ℕ). g.held_by i ∙ p.held' i _ _ _ _ in
    gone_by c h t e t.queues t.semaphores _ (λ i x. eqb sid.0 x.session.0 && eqb desc.0 i) (λ s i. eqb sid.0 s && eqb desc.0 i) p.ends p.gives core held' (p.registered' c h) (λ i y. refl)
    (directory_same h e Mq t.queues p.gives (g.bindings_of Mq ∙ p.bindings' Mq _ _ _) a.queues)
    (directory_same h e Sem t.semaphores p.gives (g.bindings_of Sem ∙ p.bindings' Sem _ _ _) a.semaphores)
    (descriptions_dropped h (after_accepted h e) t.descriptions (λ row. is_of sid.0 row && is_desc desc.0 row) (λ i x. eqb sid.0 x.session.0 && eqb desc.0 i) (λ i x. refl) held' (λ d. g.nonblock_of d ∙ p.ends.nonblock' d _ _) (g.open_count ∙ p.ends.opens' _) a.descriptions)

-- the name is gone from its family's directory
names_unbound : (c : Config) (h : History) (t : TablesView) (e : Event) (f : Family) (name : List ℕ) → GivesNothing e → Agrees c h t → ((g : Family) → bindings (after_accepted h e) g ≡ filter (λ (x : Binding). not (same_family f g && same_name x.name name)) (bindings h g)) → DirectoryAgrees (after_accepted h e) Mq (without_binding f name t).queues × DirectoryAgrees (after_accepted h e) Sem (without_binding f name t).semaphores
names_unbound c h t e Mq name p a b = (
  record { bound = ap (filter (λ (x : Binding). not (same_name x.name name))) a.queues.bound ∙ sym (b Mq); facts = a.queues.facts ∙ sym (directory_left h e p Mq) },
  directory_same h e Sem t.semaphores p (b Sem ∙ filter_all (bindings h Sem)) a.semaphores,
)
names_unbound c h t e Sem name p a b = (
  directory_same h e Mq t.queues p (b Mq ∙ filter_all (bindings h Mq)) a.queues,
  record { bound = ap (filter (λ (x : Binding). not (same_name x.name name))) a.semaphores.bound ∙ sym (b Sem); facts = a.semaphores.facts ∙ sym (directory_left h e p Sem) },
)

left_of : (f : Family) (name : List ℕ) (t : TablesView) → without_binding f name t ≡ record t { queues = (without_binding f name t).queues; semaphores = (without_binding f name t).semaphores }
left_of Mq name t = refl
left_of Sem name t = refl

-- an accepted unlink
pub agrees_unlinked : (c : Config) (h : History) (t : TablesView) (e : Event) (what : Naming) → Unlinks e what → IsCore c h t → Agrees c (after_accepted h e) (after_unlink t what.family what.name)
agrees_unlinked c h t e what p core =
    let a = core.agrees in
    let g = grows c h e in
    let names = names_unbound c h t e what.family what.name p.gives a (λ f. g.bindings_of f ∙ p.bindings' f _ _ _) in
    let held' = λ (i : ℕ). g.held_by i ∙ p.held' i _ _ _ _ in
    let u = without_binding what.family what.name t in
    rw (left_of what.family what.name t) (gone_by c h t e u.queues u.semaphores t.descriptions (λ i x. false) (λ s i. false) p.ends p.gives core held' (p.registered' c h) (λ i y. refl)
    names.0
    names.1
    (descriptions_kept h (after_accepted h e) t.descriptions (λ i. held' i ∙ kept_all (held h i)) (λ d. g.nonblock_of d ∙ p.ends.nonblock' d _ _) (g.open_count ∙ p.ends.opens' _) a.descriptions))
