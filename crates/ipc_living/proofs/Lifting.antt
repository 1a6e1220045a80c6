-- What is alike in two tables is alike in the histories that they say the same as.
use Rattle.std.proofs.Common.{◌≡◌, ℕ, suc, Bool, true, false, cond, eqb, is_some, List, [], ◌∷◌, length, map, filter, find, slice_get, Option, Some, None, refl, sym, ap, subst, ◌∙◌, arith}
use Rattle.std.specs.Option.{option_map, option_map_or}
use Rattle.std.proofs.lemmas.Bool.{eqb-true}
use Rattle.ipc_terms.specs.Objects.{of_queue, as_queue, of_semaphore, as_semaphore}
use Rattle.ipc_terms.specs.declared.binding.Binding.{Binding}
use Rattle.ipc_terms.specs.declared.call.Attributes.{Attributes}
use Rattle.ipc_terms.specs.declared.facts.Facts.{Facts}
use Rattle.ipc_terms.specs.declared.ids.Family.{Family}
use Rattle.ipc_terms.specs.declared.ids.Family.TheVariants.{Mq, Sem}
use Rattle.ipc_terms.specs.declared.ids.Uid.{Uid}
use Rattle.ipc_terms.specs.declared.object.Kind.{Kind}
use Rattle.ipc_terms.specs.declared.object.Kind.TheVariants.{Queue as QueueKind, Semaphore as SemaphoreKind}
use Rattle.ipc_terms.specs.declared.object.Object.{Object}
use Rattle.ipc_access.specs.declared.class.Cred.{Cred}
use Rattle.ipc_access.specs.declared.users.User.{User}
use Rattle.ipc_access.specs.Users.{cred_of}
use Rattle.ipc_queue.specs.declared.queue.Ticket.{Ticket}
use Rattle.ipc_queue.specs.Contents.{of_priority}
use Rattle.ipc_tables.specs.declared.rows.Body.{Body}
use Rattle.ipc_tables.specs.declared.rows.ObjectRow.{ObjectRow}
use Rattle.ipc_tables.specs.Objects.{bytes_taken, row_at}
use Rattle.ipc_tables.specs.TablesView.{TablesView, directory_kept}
use Rattle.ipc_descr.specs.Charges.{limit_of}
use Rattle.ipc_policy.specs.declared.config.Config.{Config}
use Rattle.ipc_policy.specs.Decides.History.{History}
use Rattle.ipc_policy.specs.Decides.Queues.{Send}
use Rattle.ipc_policy.specs.Decides.Objects.{object, facts, directory}
use Rattle.ipc_policy.specs.Decides.Bodies.{value, semaphore}
use Rattle.ipc_policy.specs.Decides.Life.{alive, bindings}
use Rattle.ipc_policy.specs.Decides.Charges.{limit}
use Rattle.ipc_policy.proofs.Semaphores.ValueCounts.{value_counted}
use Rattle.ipc_state.specs.Agrees.{Inside, inside, row_made, body_of, ticket_of, IsCore, DirectoryAgrees}
use Rattle.ipc_state.proofs.Lookups.{row_at_is, directory_agrees}
use Rattle.ipc_state.proofs.ChargeTables.{limit_absent, limit_present, limit_found}
use Rattle.ipc_living.specs.Living.{letter_of, letters, carried, carried_from, Alike, AllAlike}
use Rattle.ipc_living.specs.Rows.{letter_kept, letters_kept, limit_carried, SameBody, SameRow, SameBinding, SameDirectory}

-- what a row says of its object
parts : (o : ℕ) (b : Bool) (w : Option Object) (v : Option Facts) (q : Inside) (row : ObjectRow) → cond b (row_made o w v q) None ≡ Some row → (w ≡ Some row.object) × (v ≡ Some row.facts) × (row.body ≡ body_of row.object.kind q)
parts o true None v q row e = absurd cc
parts o true (Some x) None q row e = absurd cc
parts o true (Some x) (Some y) q row e =
    let same : record { number = o; object = x; facts = y; bytes = bytes_taken x.kind; body = body_of x.kind q } ≡ row = cc in
    (ap (λ (r : ObjectRow). Some r.object) same, ap (λ (r : ObjectRow). Some r.facts) same, ap (λ (r : ObjectRow). r.body) (sym same) ∙ ap (λ (r : ObjectRow). body_of r.object.kind q) same)
parts o false w v q row e = absurd cc

-- the messages of a priority, as they are kept and as the policy has them
letters_with : (h : History) (p : ℕ) (m : Send) (ms : List Send) → map (letter_kept h) (of_priority p (map ticket_of ms)) ≡ map (letter_of h) (filter (λ (x : Send). eqb p x.priority) ms) → (b : Bool) → map (letter_kept h) (cond b (ticket_of m ∷ of_priority p (map ticket_of ms)) (of_priority p (map ticket_of ms))) ≡ map (letter_of h) (cond b (m ∷ filter (λ (x : Send). eqb p x.priority) ms) (filter (λ (x : Send). eqb p x.priority) ms))
letters_with h p m ms rest true = ap (λ xs. letter_of h m ∷ xs) rest
letters_with h p m ms rest false = rest

letters_are : (h : History) (p : ℕ) (ms : List Send) → map (letter_kept h) (of_priority p (map ticket_of ms)) ≡ map (letter_of h) (filter (λ (m : Send). eqb p m.priority) ms)
letters_are h p [] = refl
letters_are h p (m ∷ ms) = letters_with h p m ms (letters_are h p ms) (eqb p m.priority)

queue_letters : (h : History) (k : Kind) (q : Inside) (h' : History) (k' : Kind) (q' : Inside) (x : Attributes) → of_queue k ≡ Some x → of_queue k' ≡ Some x → SameBody h (body_of k q) h' (body_of k' q') → (p : ℕ) → map (letter_of h) (filter (λ (m : Send). eqb p m.priority) q.queue.contents) ≡ map (letter_of h') (filter (λ (m : Send). eqb p m.priority) q'.queue.contents)
queue_letters h (QueueKind a) q h' (QueueKind b) q' x e e' same p = sym (letters_are h p q.queue.contents) ∙ same p ∙ letters_are h' p q'.queue.contents
queue_letters h (QueueKind a) q h' (SemaphoreKind b) q' x e e' same p = absurd cc
queue_letters h (SemaphoreKind a) q h' k' q' x e e' same p = absurd cc

semaphore_values : (h : History) (k : Kind) (q : Inside) (h' : History) (k' : Kind) (q' : Inside) (v : ℕ) → of_semaphore k ≡ Some v → SameBody h (body_of k q) h' (body_of k' q') → q.semaphore.running ≡ q'.semaphore.running
semaphore_values h (SemaphoreKind a) q h' (SemaphoreKind b) q' v e same = same
semaphore_values h (SemaphoreKind a) q h' (QueueKind b) q' v e same = absurd same
semaphore_values h (QueueKind a) q h' k' q' v e same = absurd cc

-- objects whose rows are alike are alike
pub alike : (c : Config) (h : History) (t : TablesView) (o : ℕ) (row : ObjectRow) (c' : Config) (h' : History) (t' : TablesView) (o' : ℕ) (row' : ObjectRow) → IsCore c h t → IsCore c' h' t' → row_at t.objects o ≡ Some row → row_at t'.objects o' ≡ Some row' → SameRow h row h' row' → Alike c h o c' h' o'
alike c h t o row c' h' t' o' row' core core' there there' same =
    let p = parts o (alive h o) (object c h o) (facts c h o) (inside c h o) row (sym (row_at_is c h t.objects t.created o core.agrees.objects) ∙ there) in
    let p' = parts o' (alive h' o') (object c' h' o') (facts c' h' o') (inside c' h' o') row' (sym (row_at_is c' h' t'.objects t'.created o' core'.agrees.objects) ∙ there') in
    let bodies : SameBody h (body_of row.object.kind (inside c h o)) h' (body_of row'.object.kind (inside c' h' o')) = subst (λ (b : Body). SameBody h (body_of row.object.kind (inside c h o)) h' b) p'.2 (subst (λ (b : Body). SameBody h b h' row'.body) p.2 same.bodies) in
    record {
      creators = ap (option_map (λ (x : Object). x.creator)) p.0 ∙ ap Some same.creators ∙ sym (ap (option_map (λ (x : Object). x.creator)) p'.0);
      owners = p.1 ∙ ap Some same.facts_are ∙ sym p'.1;
      attributes_are = ap as_queue p.0 ∙ same.attributes_are ∙ sym (ap as_queue p'.0);
      messages = λ x is q. (let own : of_queue row.object.kind ≡ Some x = sym (ap as_queue p.0) ∙ is in queue_letters h row.object.kind (inside c h o) h' row'.object.kind (inside c' h' o') x own (sym same.attributes_are ∙ own) bodies q);
      values = λ v is. value_counted c h o core.legal ∙ semaphore_values h row.object.kind (inside c h o) h' row'.object.kind (inside c' h' o') v (sym (ap as_semaphore p.0) ∙ is) bodies ∙ sym (value_counted c' h' o' core'.legal);
    }

-- of each turn, so all
all_alike : (c : Config) (h : History) (c' : Config) (h' : History) (xs ys : List Binding) → length xs ≡ length ys → ((i : ℕ) (x y : Binding) → slice_get xs i ≡ Some x → slice_get ys i ≡ Some y → (x.name ≡ y.name) × Alike c h x.object c' h' y.object) → AllAlike c h xs c' h' ys
all_alike c h c' h' [] [] e f = tt
all_alike c h c' h' [] (y ∷ ys) e f = absurd (omega arith)
all_alike c h c' h' (x ∷ xs) [] e f = absurd (omega arith)
all_alike c h c' h' (x ∷ xs) (y ∷ ys) e f = let first = f 0 x y refl refl in (first.0, first.1, all_alike c h c' h' xs ys (omega arith) (λ i a b p q. f (suc i) a b p q))

-- the names of a family
pub names_alike : (c : Config) (h : History) (t : TablesView) (c' : Config) (h' : History) (t' : TablesView) (f : Family) → IsCore c h t → IsCore c' h' t' → SameDirectory h t h' t' f → AllAlike c h (bindings h f) c' h' (bindings h' f)
names_alike c h t c' h' t' f core core' same =
    let a = directory_agrees c h t f core.agrees in
    let a' = directory_agrees c' h' t' f core'.agrees in
    subst (λ (xs : List Binding). AllAlike c h xs c' h' (bindings h' f)) a.bound (subst (λ (ys : List Binding). AllAlike c h (directory_kept f t).bindings c' h' ys) a'.bound
    (all_alike c h c' h' (directory_kept f t).bindings (directory_kept f t').bindings same.count (λ i x y p q. (let s = same.each i x y p q in (s.names_are, alike c h t x.object s.row c' h' t' y.object s.row' core core' s.there s.there' s.rows)))))

pub facts_alike : (c : Config) (h : History) (t : TablesView) (c' : Config) (h' : History) (t' : TablesView) (f : Family) → IsCore c h t → IsCore c' h' t' → SameDirectory h t h' t' f → directory h f ≡ directory h' f
facts_alike c h t c' h' t' f core core' same = sym (directory_agrees c h t f core.agrees).facts ∙ same.facts_are ∙ (directory_agrees c' h' t' f core'.agrees).facts

-- a user of the file stands in it somewhere
user_here : (x : User) (xs : List User) (u : Uid) (who : Cred) (l l' : ℕ → ℕ) → l x.cred.uid.0 ≡ l' x.cred.uid.0 → (cred_of xs u ≡ Some who → l u.0 ≡ l' u.0) → (b : Bool) → eqb x.cred.uid.0 u.0 ≡ b → option_map (λ (user : User). user.cred) (cond b (Some x) (find (λ (user : User). eqb user.cred.uid.0 u.0) xs)) ≡ Some who → l u.0 ≡ l' u.0
user_here x xs u who l l' own rest true is k = subst (λ n. l n ≡ l' n) (eqb-true x.cred.uid.0 u.0 is) own
user_here x xs u who l l' own rest false is k = rest k

user_there : (users : List User) (u : Uid) (who : Cred) (l l' : ℕ → ℕ) → cred_of users u ≡ Some who → ((i : ℕ) (user : User) → slice_get users i ≡ Some user → l user.cred.uid.0 ≡ l' user.cred.uid.0) → l u.0 ≡ l' u.0
user_there [] u who l l' e f = absurd cc
user_there (x ∷ xs) u who l l' e f = user_here x xs u who l l' (f 0 x refl) (λ k. user_there xs u who l l' k (λ i user p. f (suc i) user p)) (eqb x.cred.uid.0 u.0) refl e

limit_now : (c : Config) (h : History) (t : TablesView) (u : Uid) (who : Cred) → IsCore c h t → cred_of c.users u ≡ Some who → limit c h u ≡ Some (limit_of t.charges u.0)
limit_now c h t u who core e = sym (limit_found c h t.charges u (limit_present c h u who e) core.agrees.charges)

-- what the file says of a user that it may have
abbrev of_file : Option Cred → Option ℕ
of_file w = option_map (λ (first : Cred). first.limit) w

-- what is kept tells which limit is taken along
carried_kept : (c : Config) (h : History) (t : TablesView) (u : Uid) (new : ℕ) → IsCore c h t → carried_from new (of_file (cred_of c.users u)) (limit c h u) ≡ carried_from new (of_file (cred_of c.users u)) (Some (limit_of t.charges u.0))
carried_kept c h t u new core = at (cred_of c.users u) refl where
  at : (w : Option Cred) → cred_of c.users u ≡ w → carried_from new (of_file (cred_of c.users u)) (limit c h u) ≡ carried_from new (of_file (cred_of c.users u)) (Some (limit_of t.charges u.0))
  at None e = ap (λ (w : Option Cred). carried_from new (of_file w) (limit c h u)) e ∙ sym (ap (λ (w : Option Cred). carried_from new (of_file w) (Some (limit_of t.charges u.0))) e)
  at (Some first) e = ap (carried_from new (of_file (cred_of c.users u))) (limit_now c h t u first core e)

pub limits_alike : (c : Config) (h : History) (t : TablesView) (c' : Config) (h' : History) (t' : TablesView) → IsCore c h t → IsCore c' h' t' → ((i : ℕ) (user : User) → slice_get c'.users i ≡ Some user → limit_carried c.users t.charges c'.users user.cred.uid ≡ limit_of t'.charges user.cred.uid.0) → (u : Uid) → carried c h c' u ≡ limit c' h' u
limits_alike c h t c' h' t' core core' same u = at (cred_of c'.users u) refl where
  taken : Cred → ℕ
  taken who = carried_from who.limit (of_file (cred_of c.users u)) (limit c h u)

  kept : Option Cred → ℕ
  kept w = option_map_or (λ (who : Cred). carried_from who.limit (of_file (cred_of c.users u)) (Some (limit_of t.charges u.0))) w 0

  at : (w : Option Cred) → cred_of c'.users u ≡ w → carried c h c' u ≡ limit c' h' u
  at None e = ap (option_map taken) e ∙ sym (limit_absent c' h' u e)
  at (Some who) e =
      ap (option_map taken) e
      ∙ ap Some (carried_kept c h t u who.limit core ∙ sym (ap kept e) ∙ user_there c'.users u who (λ n. limit_carried c.users t.charges c'.users (record { 0 = n })) (limit_of t'.charges) e same)
      ∙ sym (limit_now c' h' t' u who core' e)

-- under one configuration each limit stays
pub carried_alone : (c : Config) (h : History) (u : Uid) → carried c h c u ≡ limit c h u
carried_alone c h u = at (cred_of c.users u) refl where
  stays : (first now : ℕ) (b : Bool) → eqb now first ≡ b → cond b first now ≡ now
  stays first now true e = sym (eqb-true now first e)
  stays first now false e = refl

  found : (who : Cred) (w : Option ℕ) → is_some w ≡ true → Some (carried_from who.limit (Some who.limit) w) ≡ w
  found who None e = absurd cc
  found who (Some now) e = ap Some (stays who.limit now (eqb now who.limit) refl)

  at : (w : Option Cred) → cred_of c.users u ≡ w → carried c h c u ≡ limit c h u
  at None e = ap (option_map (λ (who : Cred). carried_from who.limit (of_file (cred_of c.users u)) (limit c h u))) e ∙ sym (limit_absent c h u e)
  at (Some who) e = ap (λ (w : Option Cred). option_map (λ (new : Cred). carried_from new.limit (of_file w) (limit c h u)) w) e ∙ found who (limit c h u) (limit_present c h u who e)

pub both_directories : (h h' : History) → directory h Mq ≡ directory h' Mq → directory h Sem ≡ directory h' Sem → (f : Family) → directory h f ≡ directory h' f
both_directories h h' q s Mq = q
both_directories h h' q s Sem = s
