-- What an accepted event does to the tables of names, objects and descriptions.
use Rattle.std.proofs.Common.{◌≡◌, ℕ, zero, suc, map, find, ◌+◌, ◌<◌, Bool, true, false, not, ◌&&◌, ◌||◌, eqb, cond, List, [], ◌∷◌, ◌++◌, filter, Option, Some, None, is_some, refl, sym, ap, ◌∙◌}
use Rattle.std.specs.Prelude.{if◌then◌else◌}
use Rattle.std.specs.Option.{option_map, option_to_list}
use Rattle.std.proofs.lemmas.List.{map-append}
use Rattle.std.proofs.lemmas.Bool.{eq-eqb, ne_eqb}
use Rattle.ipc_terms.specs.declared.facts.Facts.{Facts}
use Rattle.ipc_terms.specs.declared.ids.Family.{Family}
use Rattle.ipc_terms.specs.declared.ids.Family.TheVariants.{Mq, Sem}
use Rattle.ipc_names.specs.Directory.{Directory}
use Rattle.ipc_policy.specs.declared.config.Config.{Config}
use Rattle.ipc_policy.specs.declared.config.Held.{Held}
use Rattle.ipc_terms.specs.declared.object.Object.{Object}
use Rattle.ipc_policy.specs.Decides.History.{History, unless, gathered_below, any_below}
use Rattle.ipc_policy.specs.Decides.Names.{Opening, creations}
use Rattle.ipc_policy.specs.Decides.Objects.{object, facts, directory}
use Rattle.ipc_policy.specs.Decides.Descriptions.{opens, held, is_nonblock}
use Rattle.ipc_policy.specs.Decides.Life.{named, bindings, gives_object, alive}
use Rattle.ipc_policy.proofs.Lists.Gathering.{gathered_same, gathered_more, passing, gathered_filter, any_below_same, any_below_more, more_at}
use Rattle.ipc_policy.proofs.Holdings.Holding.{kept_some}
use Rattle.ipc_tables.specs.declared.rows.ObjectRow.{ObjectRow}
use Rattle.ipc_descr.specs.declared.row.Row.{Row}
use Rattle.ipc_terms.specs.Lists.{changed_first}
use Rattle.ipc_terms.specs.declared.ids.Sid.{Sid}
use Rattle.ipc_descr.specs.Descriptions.{Descriptions, is_desc, with_nonblock, with_session}
use Rattle.ipc_queue.specs.Tickets.{without_registration}
use Rattle.ipc_terms.specs.declared.call.Attributes.{Attributes}
use Rattle.ipc_terms.specs.declared.object.Kind.{Kind}
use Rattle.ipc_terms.specs.declared.object.Kind.TheVariants.{Queue as QueueKind, Semaphore as SemaphoreKind}
use Rattle.ipc_policy.specs.declared.config.Registration.{Registration}
use Rattle.ipc_policy.specs.Decides.Queues.{Queue}
use Rattle.ipc_policy.specs.Decides.Semaphores.{Semaphore}
use Rattle.ipc_tables.specs.Objects.{is_number, bytes_taken, new_body, new_row, with_queue, with_held}
use Rattle.ipc_tables.specs.declared.rows.Body.TheVariants.{Queue as QueueBody}
use Rattle.ipc_tables.specs.declared.rows.Body.{Body}
use Rattle.ipc_tables.specs.TablesView.{is_alive, is_kept}
use Rattle.ipc_tables.specs.Steps.{living}
use Rattle.ipc_state.specs.Agrees.{DirectoryAgrees, ObjectsAgree, DescriptionsAgree, Inside, inside, tickets_of, body_of, row_made, row_with, row_held}
use Rattle.ipc_state.proofs.Lookups.{alive_is, row_of_other, row_of_own, row_other, row_own}
use Rattle.ipc_state.proofs.Gathered.{gathered_changed}

pub directory_kept : (h k : History) (f : Family) (t : Directory) → bindings k f ≡ bindings h f → directory k f ≡ directory h f → DirectoryAgrees h f t → DirectoryAgrees k f t
directory_kept h k f t b d a = record { bound = a.bound ∙ sym b; facts = a.facts ∙ sym d }

-- objects, where nothing changes
pub row_kept : (o : ℕ) (b d : Bool) (w x : Option Object) (v y : Option Facts) (m n : Inside) → b ≡ d → w ≡ x → v ≡ y → m ≡ n → cond b (row_made o w v m) None ≡ cond d (row_made o x y n) None
row_kept o b d w x v y m n one two three four = rw (one, two, three, four) refl

-- the rows are gathered from the values of another history
pub rows_kept : (c : Config) (h k : History) (p q : ℕ → Inside) → ((o : ℕ) → alive k o ≡ alive h o) → ((o : ℕ) → object c k o ≡ object c h o) → ((o : ℕ) → facts c k o ≡ facts c h o) → ((o : ℕ) → p o ≡ q o) → creations k ≡ creations h → gathered_below (row_with c h q) (creations h) ≡ gathered_below (row_with c k p) (creations k)
rows_kept c h k p q l o f m n = sym (ap (gathered_below (row_with c k p)) n ∙ gathered_same (row_with c k p) (row_with c h q) (creations h) (λ i lt. row_kept i (alive k i) (alive h i) (object c k i) (object c h i) (facts c k i) (facts c h i) (p i) (q i) (l i) (o i) (f i) (m i)))

pub objects_kept : (c : Config) (h k : History) (xs : List ObjectRow) (created : ℕ) → ((o : ℕ) → alive k o ≡ alive h o) → ((o : ℕ) → object c k o ≡ object c h o) → ((o : ℕ) → facts c k o ≡ facts c h o) → ((o : ℕ) → inside c k o ≡ inside c h o) → creations k ≡ creations h → ObjectsAgree c h xs created → ObjectsAgree c k xs created
objects_kept c h k xs created l o f m n a = record {
  rows = a.rows ∙ rows_kept c h k (inside c k) (inside c h) l o f m n;
  count = a.count ∙ sym n;
}

pub alive_kept : (h k : History) (o : ℕ) → named k o ≡ named h o → ((d : ℕ) → held k d ≡ held h d) → opens k ≡ opens h → alive k o ≡ alive h o
unfolding alive
alive_kept h k o n d m =
    ap (λ w. is_some w || any_below (λ i. gives_object o (held k i)) (opens k)) n
    ∙ ap (λ b. is_some (named h o) || b) (ap (any_below (λ i. gives_object o (held k i))) m ∙ any_below_same _ _ (opens h) (λ i lt. ap (gives_object o) (d i)))

-- an event that creates nothing and opens nothing leaves no object alive that was not
gives_kept : (o : ℕ) (p : Held → Bool) (w : Option Held) → gives_object o (unless p w) ≡ true → gives_object o w ≡ true
gives_kept o p None e = e
gives_kept o p (Some x) e = at (p x) e where
  at : (b : Bool) → gives_object o (cond b None (Some x)) ≡ true → gives_object o (Some x) ≡ true
  at true k = absurd cc
  at false k = k

pub alive_less : (h k : History) (o : ℕ) (p : Opening → Bool) (q : ℕ → Held → Bool) → named k o ≡ unless p (named h o) → ((d : ℕ) → held k d ≡ unless (q d) (held h d)) → opens k ≡ opens h → alive k o ≡ true → alive h o ≡ true
unfolding alive
alive_less h k o p q n d m e = more_at (is_some (named k o)) (any_below (λ i. gives_object o (held k i)) (opens k)) (is_some (named h o)) (any_below (λ i. gives_object o (held h i)) (opens h))
    (λ f. kept_some p (named h o) (sym (ap is_some n) ∙ f))
    (λ f. any_below_more (λ i. gives_object o (held k i)) (λ i. gives_object o (held h i)) (opens h) (λ i j. gives_kept o (q i) (held h i) (sym (ap (gives_object o) (d i)) ∙ j)) (sym (ap (any_below (λ i. gives_object o (held k i))) m) ∙ f))
    e

-- a list that is gathered, each changed
map_listed : {X : Type 0} (f : X → X) (w : Option X) → map f (option_to_list w) ≡ option_to_list (option_map f w)
map_listed f None = refl
map_listed f (Some x) = refl

gathered_map : {X : Type 0} (f : X → X) (g : ℕ → Option X) (n : ℕ) → map f (gathered_below g n) ≡ gathered_below (λ i. option_map f (g i)) n
gathered_map f g zero = refl
gathered_map f g (suc n) = map-append f (gathered_below g n) (option_to_list (g n)) ∙ ap (λ l. l ++ map f (option_to_list (g n))) (gathered_map f g n) ∙ ap (λ l. gathered_below (λ i. option_map f (g i)) n ++ l) (map_listed f (g n))

-- the objects that are still alive
none_if : (d : Bool) → ◌≡◌ {A = Option ObjectRow} None (cond d None None)
none_if true = refl
none_if false = refl

row_left : (o : ℕ) (keep : ObjectRow → Bool) (b d : Bool) (w : Option Object) (v : Option Facts) (q : Inside) → ((row : ObjectRow) → row.number ≡ o → keep row ≡ d) → (d ≡ true → b ≡ true) → passing keep (cond b (row_made o w v q) None) ≡ cond d (row_made o w v q) None
row_left o keep true d None v q all less = none_if d
row_left o keep true d (Some x) None q all less = none_if d
row_left o keep true d (Some x) (Some y) q all less = ap (λ b. cond b (row_made o (Some x) (Some y) q) None) (all (record { number = o; object = x; facts = y; bytes = bytes_taken x.kind; body = body_of x.kind q }) refl)
row_left o keep false true w v q all less = absurd (let k = less refl in cc)
row_left o keep false false w v q all less = refl

-- the registration that is left, by the descriptions that are held
abbrev pub released : List Row → Option Registration → Option Registration
released rows None = None
released rows (Some x) = cond (is_some (find (is_desc x.desc.0) rows)) (Some x) None

-- what is left of what stands in an object
abbrev pub left_in : List Row → Inside → Inside
left_in rows q = record q { registered = released rows q.registered }

queue_left : (rows : List Row) (o : ℕ) (x : Object) (y : Facts) (given : Attributes) (n : ℕ) (q : Queue) (u : Semaphore) (g : Option Registration) → with_held rows (record { number = o; object = x; facts = y; bytes = n; body = QueueBody (tickets_of g q given) }) ≡ record { number = o; object = x; facts = y; bytes = n; body = QueueBody (tickets_of (released rows g) q given) }
unfolding without_registration
queue_left rows o x y given n q u None = refl
queue_left rows o x y given n q u (Some r) = at (is_some (find (is_desc r.desc.0) rows)) where
  at : (b : Bool) → cond b (record { number = o; object = x; facts = y; bytes = n; body = QueueBody (tickets_of (Some r) q given) }) (with_queue (without_registration r.desc) (record { number = o; object = x; facts = y; bytes = n; body = QueueBody (tickets_of (Some r) q given) })) ≡ record { number = o; object = x; facts = y; bytes = n; body = QueueBody (tickets_of (cond b (Some r) None) q given) }
  at true = refl
  at false = rw (eq-eqb r.desc.0 r.desc.0 refl) refl

body_left : (rows : List Row) (o : ℕ) (x : Object) (y : Facts) (n : ℕ) (q : Inside) (kind : Kind) → with_held rows (record { number = o; object = x; facts = y; bytes = n; body = body_of kind q }) ≡ record { number = o; object = x; facts = y; bytes = n; body = body_of kind (left_in rows q) }
body_left rows o x y n q (QueueKind given) = queue_left rows o x y given n q.queue q.semaphore q.registered
body_left rows o x y n q (SemaphoreKind value) = refl

row_released : (rows : List Row) (o : ℕ) (b : Bool) (w : Option Object) (v : Option Facts) (q : Inside) → option_map (with_held rows) (cond b (row_made o w v q) None) ≡ cond b (row_made o w v (left_in rows q)) None
row_released rows o true None v q = refl
row_released rows o true (Some x) None q = refl
row_released rows o true (Some x) (Some y) q = ap Some (body_left rows o x y (bytes_taken x.kind) q x.kind)
row_released rows o false w v q = refl

pub objects_left : (c : Config) (h k : History) (q' : ℕ → Inside) (queues semaphores : Directory) (t : Descriptions) (xs : List ObjectRow) (created : ℕ) → DirectoryAgrees k Mq queues → DirectoryAgrees k Sem semaphores → DescriptionsAgree k t → ((o : ℕ) → alive k o ≡ true → alive h o ≡ true) → ((o : ℕ) → object c k o ≡ object c h o) → ((o : ℕ) → facts c k o ≡ facts c h o) → ((o : ℕ) → inside c k o ≡ left_in t.rows (q' o)) → creations k ≡ creations h → xs ≡ gathered_below (row_with c h q') (creations h) → created ≡ creations h → ObjectsAgree c k (living queues semaphores t.rows xs) created
objects_left c h k q' queues semaphores t xs created q s d less o f m n rows count = record {
  rows =
      ap (λ l. map (with_held t.rows) (filter (is_kept queues semaphores t.rows) l)) rows
      ∙ ap (map (with_held t.rows)) (gathered_filter (is_kept queues semaphores t.rows) (row_with c h q') (creations h))
      ∙ gathered_map (with_held t.rows) (λ i. passing (is_kept queues semaphores t.rows) (row_with c h q' i)) (creations h)
      ∙ gathered_same _ (row_with c k (inside c k)) (creations h) (λ i lt.
      ap (option_map (with_held t.rows)) (row_left i (is_kept queues semaphores t.rows) (alive h i) (alive k i) (object c h i) (facts c h i) (q' i) (λ row e. ap (is_alive queues semaphores t.rows) e ∙ alive_is k queues semaphores t i q s d) (less i))
      ∙ row_released t.rows i (alive k i) (object c h i) (facts c h i) (q' i)
      ∙ row_kept i (alive k i) (alive k i) (object c h i) (object c k i) (facts c h i) (facts c k i) (left_in t.rows (q' i)) (inside c k i) refl (sym (o i)) (sym (f i)) (sym (m i)))
      ∙ ap (gathered_below (row_with c k (inside c k))) (sym n);
  count = count ∙ sym n;
}

-- one more object
pub objects_created : (c : Config) (h k : History) (xs : List ObjectRow) (created : ℕ) (x : Object) (y : Facts) → creations k ≡ creations h + 1 → ((o : ℕ) → o < creations h → alive k o ≡ alive h o) → ((o : ℕ) → o < creations h → object c k o ≡ object c h o) → ((o : ℕ) → o < creations h → facts c k o ≡ facts c h o) → ((o : ℕ) → o < creations h → inside c k o ≡ inside c h o) → alive k (creations h) ≡ true → object c k (creations h) ≡ Some x → facts c k (creations h) ≡ Some y → body_of x.kind (inside c k (creations h)) ≡ new_body x.kind → ObjectsAgree c h xs created → ObjectsAgree c k (xs ++ new_row created x y ∷ []) (created + 1)
objects_created c h k xs created x y n l o f m lives made made' new a = record {
  rows = sym (
      gathered_more (row_with c k (inside c k)) (row_with c h (inside c h)) (creations k) (creations h) n (λ i lt. row_kept i (alive k i) (alive h i) (object c k i) (object c h i) (facts c k i) (facts c h i) (inside c k i) (inside c h i) (l i lt) (o i lt) (f i lt) (m i lt))
      ∙ ap (λ w. gathered_below (row_with c h (inside c h)) (creations h) ++ option_to_list w) (row_kept (creations h) (alive k (creations h)) true (object c k (creations h)) (Some x) (facts c k (creations h)) (Some y) (inside c k (creations h)) (inside c k (creations h)) lives made made' refl)
      ∙ ap (λ b. gathered_below (row_with c h (inside c h)) (creations h) ++ record { number = creations h; object = x; facts = y; bytes = bytes_taken x.kind; body = b } ∷ []) new
      ∙ ap (λ i. gathered_below (row_with c h (inside c h)) (creations h) ++ new_row i x y ∷ []) (sym a.count)
      ∙ ap (λ l. l ++ new_row created x y ∷ []) (sym a.rows));
  count = ap (λ i. i + 1) a.count ∙ sym n;
}

-- what stands in one object changes
abbrev pub with_inside : (Body → Body) → ObjectRow → ObjectRow
with_inside change row = record row { body = change row.body }

row_changed : (o : ℕ) (change : Body → Body) (b : Bool) (w : Option Object) (v : Option Facts) (m n : Inside) → ((x : Object) → w ≡ Some x → body_of x.kind n ≡ change (body_of x.kind m)) → cond b (row_made o w v n) None ≡ option_map (with_inside change) (cond b (row_made o w v m) None)
row_changed o change true None v m n e = refl
row_changed o change true (Some x) None m n e = refl
row_changed o change true (Some x) (Some y) m n e = ap (λ b. Some (record { number = o; object = x; facts = y; bytes = bytes_taken x.kind; body = b })) (e x refl)
row_changed o change false w v m n e = refl

pub rows_changed : (c : Config) (h k : History) (q : ℕ → Inside) (xs : List ObjectRow) (created o : ℕ) (change : Body → Body) → ((i : ℕ) → alive k i ≡ alive h i) → ((i : ℕ) → object c k i ≡ object c h i) → ((i : ℕ) → facts c k i ≡ facts c h i) → ((i : ℕ) → (i ≡ o → ⊥) → q i ≡ inside c h i) → ((x : Object) → object c h o ≡ Some x → body_of x.kind (q o) ≡ change (body_of x.kind (inside c h o))) → creations k ≡ creations h → ObjectsAgree c h xs created → changed_first (is_number o) (with_inside change) xs ≡ gathered_below (row_with c k q) (creations k)
rows_changed c h k q xs created o change l made f same here n a =
    ap (changed_first (is_number o) (with_inside change)) a.rows
    ∙ gathered_changed (is_number o) (with_inside change) (row_with c h (inside c h)) (row_with c k q) (creations h) o
    (λ i ne. row_other o i (alive h i) (object c h i) (facts c h i) (inside c h i) (ne_eqb i o ne))
    (λ row e. row_own o (alive h o) (object c h o) (facts c h o) (inside c h o) row e)
    (λ i ne. row_kept i (alive k i) (alive h i) (object c k i) (object c h i) (facts c k i) (facts c h i) (q i) (inside c h i) (l i) (made i) (f i) (same i ne))
    (row_kept o (alive k o) (alive h o) (object c k o) (object c h o) (facts c k o) (facts c h o) (q o) (q o) (l o) (made o) (f o) refl
    ∙ row_changed o change (alive h o) (object c h o) (facts c h o) (inside c h o) (q o) here)
    ∙ ap (gathered_below (row_with c k q)) (sym n)

-- descriptions
pub same_rows : (h k : History) (n : ℕ) → ((d : ℕ) → held k d ≡ held h d) → ((d : ℕ) → is_nonblock k d ≡ is_nonblock h d) → gathered_below (λ i. option_map (row_held (is_nonblock k) i) (held k i)) n ≡ gathered_below (λ i. option_map (row_held (is_nonblock h) i) (held h i)) n
same_rows h k n d b = gathered_same _ _ n (λ i lt. ap (option_map (row_held (is_nonblock k) i)) (d i) ∙ same_row (is_nonblock k) (is_nonblock h) i (held h i) (b i)) where
  same_row : (p q : ℕ → Bool) (i : ℕ) (w : Option Held) → p i ≡ q i → option_map (row_held p i) w ≡ option_map (row_held q i) w
  same_row p q i None e = refl
  same_row p q i (Some x) e = ap (λ nonblock. Some (record { desc = record { 0 = i }; session = x.session; object = x.object; access = x.access; nonblock = nonblock })) e

pub descriptions_kept : (h k : History) (t : Descriptions) → ((d : ℕ) → held k d ≡ held h d) → ((d : ℕ) → is_nonblock k d ≡ is_nonblock h d) → opens k ≡ opens h → DescriptionsAgree h t → DescriptionsAgree k t
descriptions_kept h k t d b n a = record {
  rows = a.rows ∙ sym (ap (gathered_below (λ i. option_map (row_held (is_nonblock k) i) (held k i))) n ∙ same_rows h k (opens h) d b);
  opened = a.opened ∙ sym n;
}

-- the rows that a test takes away are those of the descriptions that end
dropped_at : (b : ℕ → Bool) (i : ℕ) (x : Held) (t : Bool) → cond (not t) (Some (row_held b i x)) None ≡ option_map (row_held b i) (cond t None (Some x))
dropped_at b i x true = refl
dropped_at b i x false = refl

dropped : (drop' : Row → Bool) (q : ℕ → Held → Bool) (b p : ℕ → Bool) (i : ℕ) (w : Option Held) → ((d : ℕ) (x : Held) → drop' (row_held b d x) ≡ q d x) → p i ≡ b i → passing (λ row. not (drop' row)) (option_map (row_held b i) w) ≡ option_map (row_held p i) (unless (q i) w)
dropped drop' q b p i None same e = refl
dropped drop' q b p i (Some x) same e = ap (λ t. cond (not t) (Some (row_held b i x)) None) (same i x) ∙ dropped_at b i x (q i x) ∙ renamed (cond (q i x) None (Some x)) where
  renamed : (w : Option Held) → option_map (row_held b i) w ≡ option_map (row_held p i) w
  renamed None = refl
  renamed (Some y) = ap (λ nonblock. Some (record { desc = record { 0 = i }; session = y.session; object = y.object; access = y.access; nonblock = nonblock })) (sym e)

pub descriptions_dropped : (h k : History) (t : Descriptions) (drop' : Row → Bool) (q : ℕ → Held → Bool) → ((d : ℕ) (x : Held) → drop' (row_held (is_nonblock h) d x) ≡ q d x) → ((d : ℕ) → held k d ≡ unless (q d) (held h d)) → ((d : ℕ) → is_nonblock k d ≡ is_nonblock h d) → opens k ≡ opens h → DescriptionsAgree h t → DescriptionsAgree k (record t { rows = filter (λ row. not (drop' row)) t.rows })
descriptions_dropped h k t drop' q same d b n a = record {
  rows =
      ap (filter (λ row. not (drop' row))) a.rows
      ∙ gathered_filter (λ row. not (drop' row)) (λ i. option_map (row_held (is_nonblock h) i) (held h i)) (opens h)
      ∙ gathered_same _ _ (opens h) (λ i lt. dropped drop' q (is_nonblock h) (is_nonblock k) i (held h i) same (b i) ∙ ap (option_map (row_held (is_nonblock k) i)) (sym (d i)))
      ∙ ap (gathered_below (λ i. option_map (row_held (is_nonblock k) i) (held k i))) (sym n);
  opened = a.opened ∙ sym n;
}

pub and_off : (b : Bool) → (b && false) ≡ false
and_off true = refl
and_off false = refl

-- a description whose calls are refused or not where they would wait
same_but : (p q : ℕ → Bool) (i : ℕ) (w : Option Held) → p i ≡ q i → option_map (row_held p i) w ≡ option_map (row_held q i) w
same_but p q i None e = refl
same_but p q i (Some x) e = ap (λ nonblock. Some (record { desc = record { 0 = i }; session = x.session; object = x.object; access = x.access; nonblock = nonblock })) e

set_own : (p q : ℕ → Bool) (d : ℕ) (nonblock : Bool) (w : Option Held) → p d ≡ nonblock → option_map (row_held p d) w ≡ option_map (with_nonblock nonblock) (option_map (row_held q d) w)
set_own p q d nonblock None e = refl
set_own p q d nonblock (Some x) e = ap (λ n. Some (record { desc = record { 0 = d }; session = x.session; object = x.object; access = x.access; nonblock = n })) e

pub descriptions_set : (h k : History) (t : Descriptions) (d : ℕ) (nonblock : Bool) → ((i : ℕ) → held k i ≡ held h i) → ((i : ℕ) → is_nonblock k i ≡ (if eqb d i then nonblock else is_nonblock h i)) → opens k ≡ opens h → DescriptionsAgree h t → DescriptionsAgree k (record t { rows = changed_first (is_desc d) (with_nonblock nonblock) t.rows })
descriptions_set h k t d nonblock same b n a = record {
  rows =
      ap (changed_first (is_desc d) (with_nonblock nonblock)) a.rows
      ∙ gathered_changed (is_desc d) (with_nonblock nonblock) (λ i. option_map (row_held (is_nonblock h) i) (held h i)) (λ i. option_map (row_held (is_nonblock k) i) (held k i)) (opens h) d
      (λ i ne. row_of_other (is_nonblock h) d i (held h i) (ne_eqb d i (λ q. ne (sym q))))
      (λ row e. row_of_own (is_nonblock h) d (held h d) row e)
      (λ i ne. ap (option_map (row_held (is_nonblock k) i)) (same i) ∙ same_but (is_nonblock k) (is_nonblock h) i (held h i) (b i ∙ rw (ne_eqb d i (λ q. ne (sym q))) refl))
      (ap (option_map (row_held (is_nonblock k) d)) (same d) ∙ set_own (is_nonblock k) (is_nonblock h) d nonblock (held h d) (b d ∙ rw (eq-eqb d d refl) refl))
      ∙ ap (gathered_below (λ i. option_map (row_held (is_nonblock k) i) (held k i))) (sym n);
  opened = a.opened ∙ sym n;
}

-- a description that passes to another session
passed_row : (p q : ℕ → Bool) (d : ℕ) (taker : Sid) (x : Held) → p d ≡ q d → Some (row_held p d (record x { session = taker })) ≡ Some (with_session taker (row_held q d x))
passed_row p q d taker x e = ap (λ n. Some (record { desc = record { 0 = d }; session = taker; object = x.object; access = x.access; nonblock = n })) e

pub descriptions_passed : (h k : History) (t : Descriptions) (d : ℕ) (taker : Sid) (x : Held) → ((i : ℕ) → eqb d i ≡ false → held k i ≡ held h i) → held h d ≡ Some x → held k d ≡ Some (record x { session = taker }) → ((i : ℕ) → is_nonblock k i ≡ is_nonblock h i) → opens k ≡ opens h → DescriptionsAgree h t → DescriptionsAgree k (record t { rows = changed_first (is_desc d) (with_session taker) t.rows })
descriptions_passed h k t d taker x others was is b n a = record {
  rows =
      ap (changed_first (is_desc d) (with_session taker)) a.rows
      ∙ gathered_changed (is_desc d) (with_session taker) (λ i. option_map (row_held (is_nonblock h) i) (held h i)) (λ i. option_map (row_held (is_nonblock k) i) (held k i)) (opens h) d
      (λ i ne. row_of_other (is_nonblock h) d i (held h i) (ne_eqb d i (λ q. ne (sym q))))
      (λ row e. row_of_own (is_nonblock h) d (held h d) row e)
      (λ i ne. ap (option_map (row_held (is_nonblock k) i)) (others i (ne_eqb d i (λ q. ne (sym q)))) ∙ same_but (is_nonblock k) (is_nonblock h) i (held h i) (b i))
      (ap (option_map (row_held (is_nonblock k) d)) is ∙ passed_row (is_nonblock k) (is_nonblock h) d taker x (b d) ∙ sym (ap (λ w. option_map (with_session taker) (option_map (row_held (is_nonblock h) d) w)) was))
      ∙ ap (gathered_below (λ i. option_map (row_held (is_nonblock k) i) (held k i))) (sym n);
  opened = a.opened ∙ sym n;
}
