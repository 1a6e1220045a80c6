-- What an event leaves of the tables, where it says nothing of names and objects, and of one object at most what stands in it.
use Rattle.std.proofs.Common.{◌≡◌, ℕ, Bool, true, false, eqb, List, Option, Some, refl, sym, ap, ◌∙◌}
use Rattle.std.specs.Option.{option_map}
use Rattle.std.proofs.lemmas.Bool.{ne_eqb}
use Rattle.ipc_terms.specs.declared.ids.Uid.{Uid}
use Rattle.ipc_terms.specs.declared.ids.Family.{Family}
use Rattle.ipc_terms.specs.declared.ids.Family.TheVariants.{Mq, Sem}
use Rattle.ipc_terms.specs.declared.call.Call.TheVariants.{Umask, MqSetattr, MqGive, SetLimit, MqOpen, SemOpen, MqClose, SemClose, MqUnlink, SemUnlink, Chmod, Chown}
use Rattle.ipc_terms.specs.Objects.{of_queue, as_queue}
use Rattle.ipc_terms.specs.declared.call.Attributes.{Attributes}
use Rattle.ipc_terms.specs.declared.object.Kind.{Kind}
use Rattle.ipc_terms.specs.declared.object.Kind.TheVariants.{Queue as QueueKind, Semaphore as SemaphoreKind}
use Rattle.ipc_terms.specs.declared.record.Event.{Event}
use Rattle.ipc_terms.specs.declared.record.Event.TheVariants.{Hello, Do, Hangup}
use Rattle.ipc_policy.specs.declared.config.Config.{Config}
use Rattle.ipc_policy.specs.Decides.Registrations.{registered}
use Rattle.ipc_policy.specs.Decides.History.{History, after_accepted, gathered_below}
use Rattle.ipc_policy.specs.Decides.Sessions.{hellos, user, live, mask}
use Rattle.ipc_policy.specs.Decides.Names.{creations}
use Rattle.ipc_policy.specs.Decides.Objects.{object, facts, directory}
use Rattle.ipc_policy.specs.Decides.Descriptions.{opens, held, is_nonblock}
use Rattle.ipc_policy.specs.Decides.Life.{named, bindings, alive}
use Rattle.ipc_policy.specs.Decides.Queues.{attributes}
use Rattle.ipc_policy.specs.Decides.Bodies.{queue, semaphore}
use Rattle.ipc_terms.specs.declared.object.Object.{Object}
use Rattle.ipc_policy.specs.Decides.Charges.{charged, limit}
use Rattle.ipc_policy.specs.Decides.Parking.{Parked, parked}
use Rattle.ipc_policy.proofs.Holdings.Holding.{kept_all}
use Rattle.ipc_policy.proofs.Histories.Grown.{grows}
use Rattle.ipc_queue.specs.Tickets.{Tickets}
use Rattle.ipc_sem.specs.Counters.{Counter}
use Rattle.ipc_tables.specs.Objects.{with_body, with_counter, is_number, with_queue, with_semaphore}
use Rattle.ipc_tables.specs.declared.rows.Body.TheVariants.{Queue as QueueBody, Semaphore as SemaphoreBody}
use Rattle.ipc_tables.specs.declared.rows.ObjectRow.{ObjectRow}
use Rattle.ipc_tables.specs.declared.rows.Session.{Session}
use Rattle.ipc_terms.specs.Lists.{changed_first}
use Rattle.ipc_descr.specs.declared.charges.Charge.{Charge}
use Rattle.ipc_descr.specs.Descriptions.{Descriptions}
use Rattle.ipc_tables.specs.TablesView.{TablesView}
use Rattle.ipc_state.specs.Agrees.{Agrees, SessionsAgree, DescriptionsAgree, ChargesAgree, row_with, tickets_of, counter_of, Inside, inside, body_of}
use Rattle.ipc_state.proofs.ChargeTables.{charged_same, limit_left, charges_kept}
use Rattle.ipc_state.proofs.SessionTables.{Columns, columns_of, sessions_are}
use Rattle.ipc_state.proofs.ParkedColumn.{parked_object}
use Rattle.ipc_policy.proofs.Directories.Facts.{GivesNothing, facts_made, directory_left}
use Rattle.ipc_state.proofs.ObjectTables.{directory_kept, rows_kept, alive_kept, rows_changed, descriptions_kept, with_inside}
use Rattle.ipc_tables.specs.declared.rows.Body.{Body}

-- an event that leaves which objects there are, what they are, and their names
pub record ObjectsStay (c : Config) (h k : History) : Type 0 where
  pub alive' : (o : ℕ) → alive k o ≡ alive h o
  pub object' : (o : ℕ) → object c k o ≡ object c h o
  pub facts' : (o : ℕ) → facts c k o ≡ facts c h o
  pub creations' : creations k ≡ creations h
  pub bindings' : (f : Family) → bindings k f ≡ bindings h f
  pub directory' : (f : Family) → directory k f ≡ directory h f

-- and who holds which description
pub record HoldingsStay (c : Config) (h k : History) : Type 0 where
  pub objects : ObjectsStay c h k
  pub held' : (d : ℕ) → held k d ≡ held h d
  pub opens' : opens k ≡ opens h

-- and all else but what stands in objects and where sessions are parked
pub record Quiet (c : Config) (h k : History) : Type 0 where
  pub holdings : HoldingsStay c h k
  pub hellos' : hellos k ≡ hellos h
  pub user' : (s : ℕ) → user k s ≡ user h s
  pub mask' : (s : ℕ) → mask k s ≡ mask h s
  pub live' : (s : ℕ) → live k s ≡ live h s
  pub nonblock' : (d : ℕ) → is_nonblock k d ≡ is_nonblock h d
  pub limit' : (u : Uid) → limit c k u ≡ limit c h u

-- which events leave who holds what
abbrev pub leaves_holdings : Event → Bool
leaves_holdings (Do sid (MqOpen given)) = false
leaves_holdings (Do sid (SemOpen given)) = false
leaves_holdings (Do sid (MqClose desc)) = false
leaves_holdings (Do sid (SemClose desc)) = false
leaves_holdings (Do sid (MqUnlink name)) = false
leaves_holdings (Do sid (SemUnlink name)) = false
leaves_holdings (Do sid (MqGive desc taker)) = false
leaves_holdings (Do sid (Chmod mode target)) = false
leaves_holdings (Do sid (Chown owner group target)) = false
leaves_holdings (Hangup sid) = false
leaves_holdings _ = true

-- and which are quiet
abbrev pub is_quiet : Event → Bool
is_quiet (Hello found) = false
is_quiet (Do sid (Umask mask)) = false
is_quiet (Do sid (MqSetattr desc nonblock)) = false
is_quiet (Do sid (SetLimit uid bytes)) = false
is_quiet e = leaves_holdings e

pub holdings_stay : (c : Config) (h : History) (e : Event) → leaves_holdings e ≡ true → HoldingsStay c h (after_accepted h e)
holdings_stay c h (Do sid (MqOpen given)) k = absurd cc
holdings_stay c h (Do sid (SemOpen given)) k = absurd cc
holdings_stay c h (Do sid (MqClose desc)) k = absurd cc
holdings_stay c h (Do sid (SemClose desc)) k = absurd cc
holdings_stay c h (Do sid (MqUnlink name)) k = absurd cc
holdings_stay c h (Do sid (SemUnlink name)) k = absurd cc
holdings_stay c h (Do sid (MqGive desc taker)) k = absurd cc
holdings_stay c h (Do sid (Chmod mode target)) k = absurd cc
holdings_stay c h (Do sid (Chown owner group target)) k = absurd cc
holdings_stay c h (Hangup sid) k = absurd cc
holdings_stay c h e k =
    let g = grows c h e in
    let p : GivesNothing e = record { owner = λ m. refl; group = λ m. refl; mode = λ m. refl } in
    let held' = λ (d : ℕ). g.held_by d ∙ kept_all (held h d) in
    record {
      objects = record { alive' = λ o. alive_kept h (after_accepted h e) o (g.named_by o ∙ kept_all (named h o)) held' g.open_count; object' = g.object_of; facts' = facts_made c h e p; creations' = g.creation_count; bindings' = g.bindings_of; directory' = directory_left h e p };
      held' = held';
      opens' = g.open_count;
    }

pub quiet : (c : Config) (h : History) (e : Event) → is_quiet e ≡ true → Quiet c h (after_accepted h e)
quiet c h (Hello found) k = absurd cc
quiet c h (Hangup sid) k = absurd cc
quiet c h (Do sid (MqOpen given)) k = absurd cc
quiet c h (Do sid (SemOpen given)) k = absurd cc
quiet c h (Do sid (Umask mask)) k = absurd cc
quiet c h (Do sid (MqSetattr desc nonblock)) k = absurd cc
quiet c h (Do sid (SetLimit uid bytes)) k = absurd cc
quiet c h e k =
    let g = grows c h e in
    record { holdings = holdings_stay c h e k; hellos' = g.hello_count; user' = g.user_of; mask' = g.mask_of; live' = g.live_or_not; nonblock' = g.nonblock_of; limit' = λ u. limit_left c h e u refl }

-- the tables agree after an event that leaves objects and names, if all else does
pub agrees_with : (c : Config) (h k : History) (t : TablesView) (ss : List Session) (rows : List ObjectRow) (ds : Descriptions) (charges : List Charge) → ObjectsStay c h k → SessionsAgree c k ss → rows ≡ gathered_below (row_with c k (inside c k)) (creations k) → DescriptionsAgree k ds → ChargesAgree c k charges → Agrees c h t → Agrees c k (record t { sessions = ss; objects = rows; descriptions = ds; charges = charges })
agrees_with c h k t ss rows ds charges u sessions' rows' descriptions' charges' a = record {
  sessions = sessions';
  queues = directory_kept h k Mq t.queues (u.bindings' Mq) (u.directory' Mq) a.queues;
  semaphores = directory_kept h k Sem t.semaphores (u.bindings' Sem) (u.directory' Sem) a.semaphores;
  objects = record { rows = rows'; count = a.objects.count ∙ sym u.creations' };
  descriptions = descriptions';
  charges = charges';
}

-- charges, where limits stay too
pub charged_so : (c : Config) (h k : History) → ObjectsStay c h k → (v : Uid) → charged c k v ≡ charged c h v
charged_so c h k u v = charged_same c h k v u.alive' u.object' u.creations'

pub charges_stay : (c : Config) (h k : History) (charges : List Charge) → ObjectsStay c h k → ((v : Uid) → limit c k v ≡ limit c h v) → ChargesAgree c h charges → ChargesAgree c k charges
charges_stay c h k charges u limits = charges_kept c h k charges limits (charged_so c h k u)

-- what stands in an object stays, where its queue and its semaphore do
pub inside_same : (c : Config) (h k : History) (o : ℕ) → queue c k o ≡ queue c h o → registered c k o ≡ registered c h o → semaphore c k o ≡ semaphore c h o → inside c k o ≡ inside c h o
inside_same c h k o q g u = rw (q, g, u) refl

-- the objects, where what stands in each stays, and where it changes in one
pub rows_same : (c : Config) (h k : History) (t : TablesView) → ObjectsStay c h k → ((o : ℕ) → inside c k o ≡ inside c h o) → Agrees c h t → t.objects ≡ gathered_below (row_with c k (inside c k)) (creations k)
rows_same c h k t u same a = a.objects.rows ∙ rows_kept c h k (inside c k) (inside c h) u.alive' u.object' u.facts' same u.creations'

pub rows_touched : (c : Config) (h k : History) (t : TablesView) (o : ℕ) (change : Body → Body) → ObjectsStay c h k → ((i : ℕ) → eqb o i ≡ false → inside c k i ≡ inside c h i) → ((x : Object) → object c h o ≡ Some x → body_of x.kind (inside c k o) ≡ change (body_of x.kind (inside c h o))) → Agrees c h t → changed_first (is_number o) (with_inside change) t.objects ≡ gathered_below (row_with c k (inside c k)) (creations k)
rows_touched c h k t o change u others own a = rows_changed c h k (inside c k) t.objects t.created o change u.alive' u.object' u.facts' (λ i ne. others i (ne_eqb o i (λ e. ne (sym e)))) own u.creations' a.objects

-- the queue of one object changes
queue_changed : (kind : Kind) (change : Tickets → Tickets) (m n : Inside) → ((z : Attributes) → of_queue kind ≡ Some z → tickets_of n.registered n.queue z ≡ change (tickets_of m.registered m.queue z)) → n.semaphore ≡ m.semaphore → body_of kind n ≡ with_body change (body_of kind m)
queue_changed (QueueKind given) change m n own same = ap QueueBody (own given refl)
queue_changed (SemaphoreKind value) change m n own same = ap (λ u. SemaphoreBody (counter_of u)) same

pub queue_touched : (c : Config) (h k : History) (t : TablesView) (o : ℕ) (change : Tickets → Tickets) → ObjectsStay c h k → ((i : ℕ) → eqb o i ≡ false → queue c k i ≡ queue c h i) → ((i : ℕ) → eqb o i ≡ false → registered c k i ≡ registered c h i) → ((i : ℕ) → semaphore c k i ≡ semaphore c h i) → ((z : Attributes) → attributes c h o ≡ Some z → tickets_of (registered c k o) (queue c k o) z ≡ change (tickets_of (registered c h o) (queue c h o) z)) → Agrees c h t → changed_first (is_number o) (with_queue change) t.objects ≡ gathered_below (row_with c k (inside c k)) (creations k)
queue_touched c h k t o change u queues registrations semaphores own =
    rows_touched c h k t o (with_body change) u (λ i other. inside_same c h k i (queues i other) (registrations i other) (semaphores i)) (λ x is. queue_changed x.kind change (inside c h o) (inside c k o) (λ z given. own z (ap as_queue is ∙ given)) (semaphores o))

-- the semaphore of one object changes
semaphore_changed : (kind : Kind) (change : Counter → Counter) (m n : Inside) → counter_of n.semaphore ≡ change (counter_of m.semaphore) → n.queue ≡ m.queue → n.registered ≡ m.registered → body_of kind n ≡ with_counter change (body_of kind m)
semaphore_changed (QueueKind given) change m n own same reg = rw (same, reg) refl
semaphore_changed (SemaphoreKind value) change m n own same reg = ap SemaphoreBody own

pub semaphore_touched : (c : Config) (h k : History) (t : TablesView) (o : ℕ) (change : Counter → Counter) → ObjectsStay c h k → ((i : ℕ) → queue c k i ≡ queue c h i) → ((i : ℕ) → registered c k i ≡ registered c h i) → ((i : ℕ) → eqb o i ≡ false → semaphore c k i ≡ semaphore c h i) → counter_of (semaphore c k o) ≡ change (counter_of (semaphore c h o)) → Agrees c h t → changed_first (is_number o) (with_semaphore change) t.objects ≡ gathered_below (row_with c k (inside c k)) (creations k)
semaphore_touched c h k t o change u queues registrations semaphores own =
    rows_touched c h k t o (with_counter change) u (λ i other. inside_same c h k i (queues i) (registrations i) (semaphores i other)) (λ x is. semaphore_changed x.kind change (inside c h o) (inside c k o) own (queues o) (registrations o))

-- the sessions are as the table says, which says where they are parked
pub sessions_moved : (c : Config) (h k : History) (ss : List Session) (p : ℕ → Option ℕ) → Quiet c h k → ((s : ℕ) → parked_object c k s ≡ p s) → Columns ss (hellos h) (user h) (mask h) (live h) p → SessionsAgree c k ss
sessions_moved c h k ss p q parks columns = sessions_are c k ss (hellos h) (user h) (mask h) (live h) p columns (sym q.hellos') (λ s. sym (q.user' s)) (λ s. sym (q.mask' s)) (λ s. sym (q.live' s)) (λ s. sym (parks s))

-- and as they were, where each is parked as it was
pub sessions_same : (c : Config) (h k : History) (ss : List Session) → Quiet c h k → ((s : ℕ) → parked c k s ≡ parked c h s) → SessionsAgree c h ss → SessionsAgree c k ss
sessions_same c h k ss q parks a = sessions_moved c h k ss (parked_object c h) q (λ s. ap (option_map (λ (p : Parked). p.object)) (parks s)) (columns_of c h ss a)

-- the tables agree after a quiet event, if those of sessions and of objects do
pub moved : (c : Config) (h k : History) (t : TablesView) (ss : List Session) (rows : List ObjectRow) → Quiet c h k → SessionsAgree c k ss → rows ≡ gathered_below (row_with c k (inside c k)) (creations k) → Agrees c h t → Agrees c k (record t { sessions = ss; objects = rows })
moved c h k t ss rows q sessions' rows' a =
    let u = q.holdings in
    agrees_with c h k t ss rows t.descriptions t.charges u.objects sessions' rows' (descriptions_kept h k t.descriptions u.held' q.nonblock' u.opens' a.descriptions) (charges_stay c h k t.charges u.objects q.limit' a.charges) a

-- and after one that moves nothing
pub unmoved : (c : Config) (h k : History) (t : TablesView) → Quiet c h k → ((s : ℕ) → parked c k s ≡ parked c h s) → ((o : ℕ) → inside c k o ≡ inside c h o) → Agrees c h t → Agrees c k t
unmoved c h k t q parks same a = moved c h k t t.sessions t.objects q (sessions_same c h k t.sessions q parks a.sessions) (rows_same c h k t q.holdings.objects same a) a

-- two quiet events leave the same
pub quiet_beside : (c : Config) (h k j : History) → Quiet c h k → Quiet c h j → Quiet c k j
quiet_beside c h k j p q =
    let u = p.holdings in
    let v = q.holdings in
    record {
      holdings = record {
        objects = record { alive' = λ o. v.objects.alive' o ∙ sym (u.objects.alive' o); object' = λ o. v.objects.object' o ∙ sym (u.objects.object' o); facts' = λ o. v.objects.facts' o ∙ sym (u.objects.facts' o); creations' = v.objects.creations' ∙ sym u.objects.creations'; bindings' = λ f. v.objects.bindings' f ∙ sym (u.objects.bindings' f); directory' = λ f. v.objects.directory' f ∙ sym (u.objects.directory' f) };
        held' = λ d. v.held' d ∙ sym (u.held' d);
        opens' = v.opens' ∙ sym u.opens';
      };
      hellos' = q.hellos' ∙ sym p.hellos';
      user' = λ s. q.user' s ∙ sym (p.user' s);
      mask' = λ s. q.mask' s ∙ sym (p.mask' s);
      live' = λ s. q.live' s ∙ sym (p.live' s);
      nonblock' = λ d. q.nonblock' d ∙ sym (p.nonblock' d);
      limit' = λ x. q.limit' x ∙ sym (p.limit' x);
    }
