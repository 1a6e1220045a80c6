-- What each accepted event does to the tables keeps them the history's.
use Rattle.std.proofs.Common.{◌≡◌, ℕ, ◌%◌, Bool, true, false, not, eqb, cond, List, [], ◌∷◌, length, Option, Some, None, is_some, refl, sym, ap, subst, ◌∙◌}
use Rattle.ipc_terms.specs.declared.rule.Rule.{Rule}
use Rattle.ipc_terms.specs.Timed.{plain}
use Rattle.ipc_terms.specs.declared.ids.Uid.{Uid}
use Rattle.ipc_terms.specs.declared.ids.Sid.{Sid}
use Rattle.ipc_terms.specs.declared.ids.Desc.{Desc}
use Rattle.ipc_terms.specs.declared.ids.Mode.{Mode}
use Rattle.ipc_terms.specs.declared.ids.Family.{Family}
use Rattle.ipc_terms.specs.declared.ids.Target.{Target}
use Rattle.ipc_terms.specs.declared.call.Call.TheVariants.{Umask, MqSend, MqReceive, MqGetattr, MqSetattr, MqGive, SemPost, SemWait, SemTryWait, SemGetvalue, ListNames, StatName, SetLimit, MqNotify, Audit, MqTimedSend, MqTimedReceive, SemTimedWait}
use Rattle.ipc_terms.specs.declared.call.Attributes.{Attributes}
use Rattle.ipc_terms.specs.declared.record.Event.{Event}
use Rattle.ipc_terms.specs.declared.record.Event.TheVariants.{Hello, Do, Hangup, Tick}
use Rattle.ipc_policy.specs.declared.config.Config.{Config}
use Rattle.ipc_policy.specs.declared.config.Held.{Held}
use Rattle.ipc_policy.specs.declared.config.Registration.{Registration}
use Rattle.ipc_policy.specs.Decides.Registrations.{registered}
use Rattle.ipc_policy.proofs.Queues.RegisteredSteps.{registered_stays, registered_send_other, registered_on, registered_on_other, registered_off, registered_give, other_s_description}
use Rattle.ipc_terms.proofs.Lists.{eqb_swapped}
use Rattle.ipc_policy.specs.Decides.History.{History, after_accepted, unless, gathered_below}
use Rattle.ipc_policy.specs.Decides.Sessions.{hellos, user, live, mask}
use Rattle.ipc_policy.specs.Decides.Names.{is_bound, creations}
use Rattle.ipc_policy.specs.Decides.Objects.{object, facts, directory, directory_owner, directory_group, directory_mode}
use Rattle.ipc_policy.specs.Decides.Descriptions.{opens, held, holds}
use Rattle.ipc_policy.specs.Decides.Life.{bindings}
use Rattle.ipc_policy.specs.Decides.Queues.{Queue}
use Rattle.ipc_policy.specs.Decides.Semaphores.{with_first}
use Rattle.ipc_policy.specs.Decides.Bodies.{queue, semaphore}
use Rattle.ipc_policy.specs.Decides.Parking.{parked}
use Rattle.ipc_policy.specs.Follows.Laws.{SameValues}
use Rattle.ipc_policy.specs.Follows.Grow.{first_value}
use Rattle.ipc_policy.specs.Decides.Verdict.{verdict}
use Rattle.ipc_policy.proofs.Holdings.Holding.{holds_parts, given_held, other_held}
use Rattle.ipc_policy.proofs.Directories.Living.{alive_given}
use Rattle.ipc_policy.proofs.Histories.Grown.{grows}
use Rattle.ipc_policy.proofs.Histories.Refused.{same_values}
use Rattle.ipc_policy.proofs.Blocked.WaitSteps.{semaphore_by_others, semaphore_by_send, semaphore_by_receive, semaphore_by_post, semaphore_by_wait, semaphore_by_try, queue_by_post, queue_by_wait, queue_by_try, parked_by_try}
use Rattle.ipc_policy.proofs.Blocked.ParkedSteps.{moves, parked_by_others, queue_by_others, queue_by_send, queue_by_receive}
use Rattle.ipc_policy.proofs.Blocked.TimedSteps.{queue_as_plain, semaphore_as_plain, parked_as_plain, registered_as_plain}
use Rattle.ipc_queue.specs.Tickets.{sent, received, with_registration, without_registration}
use Rattle.ipc_sem.specs.Counters.{posted, waited, tried}
use Rattle.ipc_tables.specs.Objects.{is_number, with_queue}
use Rattle.ipc_tables.specs.declared.rows.Session.{Session}
use Rattle.ipc_terms.specs.Lists.{changed_first}
use Rattle.ipc_descr.specs.declared.charges.Charge.{Charge}
use Rattle.ipc_descr.specs.Descriptions.{Descriptions}
use Rattle.ipc_tables.specs.TablesView.{TablesView}
use Rattle.ipc_tables.specs.Steps.{after_hello, after_umask, after_send, after_receive, after_post, after_wait, after_try, after_setattr, after_hand_over, after_limit, after_notify, first_tables}
use Rattle.ipc_state.specs.Ranges.{first_bad}
use Rattle.ipc_state.specs.Agrees.{Agrees, IsCore, SessionsAgree, DescriptionsAgree, ChargesAgree, row_with, tickets_of, Inside, inside}
use Rattle.ipc_state.proofs.ChargeTables.{limit_left, charges_limited, charges_first}
use Rattle.ipc_state.proofs.SessionTables.{sessions_kept, sessions_begun, sessions_masked}
use Rattle.ipc_state.proofs.ParkedColumn.{column_by_send, column_by_receive, column_by_post, column_by_wait}
use Rattle.ipc_state.proofs.Posting.{sessions_posted, sessions_waited, counter_posted, counter_waited, counter_tried}
use Rattle.ipc_state.proofs.Serving.{IsHereQueue, IsHereSemaphore, is_open, none_receives, none_sends, sessions_sent, sessions_received, queue_sent, queue_received, registered_receive}
use Rattle.ipc_policy.proofs.Directories.Facts.{GivesNothing, facts_made, directory_left}
use Rattle.ipc_state.proofs.ObjectTables.{descriptions_kept, descriptions_set, descriptions_passed}
use Rattle.ipc_state.proofs.Leaving.{ObjectsStay, holdings_stay, quiet, agrees_with, charged_so, charges_stay, inside_same, rows_same, queue_touched, semaphore_touched, sessions_moved, sessions_same, moved, unmoved, quiet_beside, leaves_holdings, is_quiet}

-- what stands in an object, after an event that moves nothing
pub others_inside : (c : Config) (h : History) (e : Event) (o : ℕ) → moves e ≡ false → registered c (after_accepted h e) o ≡ registered c h o → first_value o e (is_bound h) (creations h) ≡ None → inside c (after_accepted h e) o ≡ inside c h o
others_inside c h e o still calm none = inside_same c h (after_accepted h e) o (queue_by_others c h e o still) calm (semaphore_by_others c h e o still ∙ ap (λ v. with_first v (semaphore c h o)) none)

-- and but for its registration, where it says something of that
pub within : (c : Config) (h : History) (e : Event) (o : ℕ) → moves e ≡ false → first_value o e (is_bound h) (creations h) ≡ None → inside c (after_accepted h e) o ≡ record (inside c h o) { registered = registered c (after_accepted h e) o }
within c h e o still none = rw (queue_by_others c h e o still, semaphore_by_others c h e o still ∙ ap (λ v. with_first v (semaphore c h o)) none) refl

-- a refused event
agrees_as : (c : Config) (h k : History) (t : TablesView) → SameValues c k h → Agrees c h t → Agrees c k t
agrees_as c h k t q a =
    let u : ObjectsStay c h k = record { alive' = q.alive; object' = q.object; facts' = q.facts; creations' = q.creations; bindings' = q.bindings; directory' = q.directory } in
    unmoved c h k t (record { holdings = record { objects = u; held' = q.held; opens' = q.opens }; hellos' = q.hellos; user' = q.user; mask' = q.mask; live' = q.live; nonblock' = q.is_nonblock; limit' = q.limit }) q.parked (λ o. inside_same c h k o (q.queue o) (q.registered o) (q.semaphore o)) a

-- an event that leaves objects and what stands in them, by what it does to sessions, descriptions and charges
leaves_inside : (c : Config) (h : History) (t : TablesView) (e : Event) (ss : List Session) (ds : Descriptions) (charges : List Charge) → leaves_holdings e ≡ true → moves e ≡ false → ((o : ℕ) → registered c (after_accepted h e) o ≡ registered c h o) → ((o : ℕ) → first_value o e (is_bound h) (creations h) ≡ None) → SessionsAgree c (after_accepted h e) ss → DescriptionsAgree (after_accepted h e) ds → ChargesAgree c (after_accepted h e) charges → Agrees c h t → Agrees c (after_accepted h e) (record t { sessions = ss; descriptions = ds; charges = charges })
leaves_inside c h t e ss ds charges leaves still calm none sessions' descriptions' charges' a =
    let u = (holdings_stay c h e leaves).objects in
    agrees_with c h (after_accepted h e) t ss t.objects ds charges u sessions' (rows_same c h (after_accepted h e) t u (λ o. others_inside c h e o still (calm o) (none o)) a) descriptions' charges' a

-- an accepted hello
pub agrees_begun : (c : Config) (h : History) (t : TablesView) (uid : Uid) → IsCore c h t → Agrees c (after_accepted h (Hello (Some uid))) (after_hello t uid)
agrees_begun c h t uid k =
    let e = Hello (Some uid) in
    let g = grows c h e in
    let u = holdings_stay c h e refl in
    leaves_inside c h t e _ t.descriptions t.charges refl refl (λ o. registered_stays c h e o refl (λ x k. refl)) (λ o. refl)
    (sessions_begun c h t.sessions uid k.legal g k.agrees.sessions)
    (descriptions_kept h (after_accepted h e) t.descriptions u.held' g.nonblock_of u.opens' k.agrees.descriptions)
    (charges_stay c h (after_accepted h e) t.charges u.objects (λ v. limit_left c h e v refl) k.agrees.charges)
    k.agrees

-- an accepted umask
pub agrees_masked : (c : Config) (h : History) (t : TablesView) (sid : Sid) (m : Mode) → Agrees c h t → Agrees c (after_accepted h (Do sid (Umask m))) (after_umask t sid.0 (record { 0 = m.0 % 512 }))
agrees_masked c h t sid m a =
    let e = Do sid (Umask m) in
    let g = grows c h e in
    let u = holdings_stay c h e refl in
    leaves_inside c h t e _ t.descriptions t.charges refl refl (λ o. registered_stays c h e o refl (λ x k. refl)) (λ o. refl)
    (sessions_masked c h t.sessions sid m g a.sessions)
    (descriptions_kept h (after_accepted h e) t.descriptions u.held' g.nonblock_of u.opens' a.descriptions)
    (charges_stay c h (after_accepted h e) t.charges u.objects (λ v. limit_left c h e v refl) a.charges)
    a

-- an accepted change of whether calls are refused where they would wait
pub agrees_set : (c : Config) (h : History) (t : TablesView) (sid : Sid) (desc : Desc) (nonblock : Bool) → Agrees c h t → Agrees c (after_accepted h (Do sid (MqSetattr desc nonblock))) (after_setattr t desc.0 nonblock)
agrees_set c h t sid desc nonblock a =
    let e = Do sid (MqSetattr desc nonblock) in
    let g = grows c h e in
    let u = holdings_stay c h e refl in
    leaves_inside c h t e t.sessions _ t.charges refl refl (λ o. registered_stays c h e o refl (λ x k. refl)) (λ o. refl)
    (sessions_kept c h _ e t.sessions g refl (λ s. refl) (λ s. refl) (λ s. refl) (λ s. parked_by_others c h e s refl) a.sessions)
    (descriptions_set h _ t.descriptions desc.0 nonblock u.held' g.nonblock_of u.opens' a.descriptions)
    (charges_stay c h (after_accepted h e) t.charges u.objects (λ v. limit_left c h e v refl) a.charges)
    a

-- an accepted limit
pub agrees_limited : (c : Config) (h : History) (t : TablesView) (sid : Sid) (uid : Uid) (bytes : ℕ) → Agrees c h t → Agrees c (after_accepted h (Do sid (SetLimit uid bytes))) (after_limit t uid.0 bytes)
agrees_limited c h t sid uid bytes a =
    let e = Do sid (SetLimit uid bytes) in
    let g = grows c h e in
    let u = holdings_stay c h e refl in
    leaves_inside c h t e t.sessions t.descriptions _ refl refl (λ o. registered_stays c h e o refl (λ x k. refl)) (λ o. refl)
    (sessions_kept c h _ e t.sessions g refl (λ s. refl) (λ s. refl) (λ s. refl) (λ s. parked_by_others c h e s refl) a.sessions)
    (descriptions_kept h (after_accepted h e) t.descriptions u.held' g.nonblock_of u.opens' a.descriptions)
    (charges_limited c h sid uid bytes t.charges (charged_so c h (after_accepted h e) u.objects) a.charges)
    a

-- a question changes nothing
asked : (c : Config) (h : History) (t : TablesView) (e : Event) → is_quiet e ≡ true → moves e ≡ false → ((o : ℕ) → registered c (after_accepted h e) o ≡ registered c h o) → ((o : ℕ) → first_value o e (is_bound h) (creations h) ≡ None) → Agrees c h t → Agrees c (after_accepted h e) t
asked c h t e silent still calm none = unmoved c h (after_accepted h e) t (quiet c h e silent) (λ s. parked_by_others c h e s still) (λ o. others_inside c h e o still (calm o) (none o))

pub agrees_listed : (c : Config) (h : History) (t : TablesView) (sid : Sid) (family : Family) (start count : ℕ) → Agrees c h t → Agrees c (after_accepted h (Do sid (ListNames family start count))) t
agrees_listed c h t sid family start count = asked c h t (Do sid (ListNames family start count)) refl refl (λ o. registered_stays c h _ o refl (λ x k. refl)) (λ o. refl)

pub agrees_told : (c : Config) (h : History) (t : TablesView) (sid : Sid) (target : Target) → Agrees c h t → Agrees c (after_accepted h (Do sid (StatName target))) t
agrees_told c h t sid target = asked c h t (Do sid (StatName target)) refl refl (λ o. registered_stays c h _ o refl (λ x k. refl)) (λ o. refl)

pub agrees_asked : (c : Config) (h : History) (t : TablesView) (sid : Sid) (desc : Desc) → Agrees c h t → Agrees c (after_accepted h (Do sid (MqGetattr desc))) t
agrees_asked c h t sid desc = asked c h t (Do sid (MqGetattr desc)) refl refl (λ o. registered_stays c h _ o refl (λ x k. refl)) (λ o. refl)

pub agrees_valued : (c : Config) (h : History) (t : TablesView) (sid : Sid) (desc : Desc) → Agrees c h t → Agrees c (after_accepted h (Do sid (SemGetvalue desc))) t
agrees_valued c h t sid desc = asked c h t (Do sid (SemGetvalue desc)) refl refl (λ o. registered_stays c h _ o refl (λ x k. refl)) (λ o. refl)

pub agrees_audited : (c : Config) (h : History) (t : TablesView) (sid : Sid) (start count : ℕ) → Agrees c h t → Agrees c (after_accepted h (Do sid (Audit start count))) t
agrees_audited c h t sid start count = asked c h t (Do sid (Audit start count)) refl refl (λ o. registered_stays c h _ o refl (λ x k. refl)) (λ o. refl)

-- an accepted send
pub agrees_sent : (c : Config) (h : History) (t : TablesView) (sid : Sid) (desc : Desc) (priority : ℕ) (bytes : List ℕ) (o : ℕ) → IsCore c h t → IsHereQueue c h t sid.0 desc.0 o → Agrees c (after_accepted h (Do sid (MqSend desc priority bytes))) (after_send t o (record { place = length h; priority = priority; bytes = bytes }) sid)
agrees_sent c h t sid desc priority bytes o k here =
    let e = Do sid (MqSend desc priority bytes) in
    let q = quiet c h e refl in
    let open' = is_open c h t here.x.object here.given k here.made in
    subst (λ (i : ℕ). Agrees c (after_accepted h e) (after_send t i (record { place = length h; priority = priority; bytes = bytes }) sid)) here.same
    (moved c h _ t _ _ q
    (sessions_moved c h _ _ _ q (λ s. column_by_send c h sid desc priority bytes here.x s k.legal here.held (none_receives c h here.x.object here.given open' here.made)) (sessions_sent c h t here.x.object here.given sid k.legal k.agrees here.lives here.made here.within))
    (queue_touched c h (after_accepted h e) t here.x.object (sent (record { place = length h; priority = priority; bytes = bytes }) sid) q.holdings.objects
    (λ i other. queue_by_send c h sid desc priority bytes here.x i here.held ∙ rw other refl)
    (λ i other. registered_send_other c h sid desc priority bytes here.x i here.held other)
    (semaphore_by_send c h sid desc priority bytes)
    (λ z given. queue_sent c h sid desc priority bytes here.x z (is_open c h t here.x.object z k given) here.held) k.agrees)
    k.agrees)

-- an accepted receive
pub agrees_received : (c : Config) (h : History) (t : TablesView) (sid : Sid) (desc : Desc) (room : ℕ) (o : ℕ) → IsCore c h t → IsHereQueue c h t sid.0 desc.0 o → Agrees c (after_accepted h (Do sid (MqReceive desc room))) (after_receive t o sid)
agrees_received c h t sid desc room o k here =
    let e = Do sid (MqReceive desc room) in
    let q = quiet c h e refl in
    let open' = is_open c h t here.x.object here.given k here.made in
    subst (λ (i : ℕ). Agrees c (after_accepted h e) (after_receive t i sid)) here.same
    (moved c h _ t _ _ q
    (sessions_moved c h _ _ _ q (λ s. column_by_receive c h sid desc room here.x s k.legal here.held (none_sends c h here.x.object here.given open' here.made)) (sessions_received c h t here.x.object here.given sid k.legal k.agrees here.lives here.made open' here.within))
    (queue_touched c h (after_accepted h e) t here.x.object (received sid) q.holdings.objects
    (λ i other. queue_by_receive c h sid desc room here.x i here.held ∙ rw other refl)
    (λ i other. registered_receive c h sid desc room i)
    (semaphore_by_receive c h sid desc room)
    (λ z given. queue_received c h sid desc room here.x z (is_open c h t here.x.object z k given) here.held) k.agrees)
    k.agrees)

-- an accepted post
pub agrees_posted : (c : Config) (h : History) (t : TablesView) (sid : Sid) (desc : Desc) (o : ℕ) → IsCore c h t → IsHereSemaphore c h t sid.0 desc.0 o → Agrees c (after_accepted h (Do sid (SemPost desc))) (after_post t o)
agrees_posted c h t sid desc o k here =
    let e = Do sid (SemPost desc) in
    let q = quiet c h e refl in
    subst (λ (i : ℕ). Agrees c (after_accepted h e) (after_post t i)) here.same
    (moved c h _ t _ _ q
    (sessions_moved c h _ _ _ q (λ s. column_by_post c h sid desc here.x s k.legal here.held) (sessions_posted c h t here.x.object here.given sid k.legal k.agrees here.lives here.made))
    (semaphore_touched c h (after_accepted h e) t here.x.object posted q.holdings.objects (queue_by_post c h sid desc) (λ i. registered_stays c h e i refl (λ x k. refl))
    (λ i other. semaphore_by_post c h sid desc here.x i here.held ∙ rw other refl)
    (counter_posted c h sid desc here.x here.held) k.agrees)
    k.agrees)

-- an accepted wait
pub agrees_waited : (c : Config) (h : History) (t : TablesView) (sid : Sid) (desc : Desc) (o : ℕ) → IsCore c h t → IsHereSemaphore c h t sid.0 desc.0 o → Agrees c (after_accepted h (Do sid (SemWait desc))) (after_wait t o sid)
agrees_waited c h t sid desc o k here =
    let e = Do sid (SemWait desc) in
    let q = quiet c h e refl in
    subst (λ (i : ℕ). Agrees c (after_accepted h e) (after_wait t i sid)) here.same
    (moved c h _ t _ _ q
    (sessions_moved c h _ _ _ q (λ s. column_by_wait c h sid desc here.x s here.held) (sessions_waited c h t here.x.object here.given sid k.legal k.agrees here.lives here.made here.within))
    (semaphore_touched c h (after_accepted h e) t here.x.object (waited sid) q.holdings.objects (queue_by_wait c h sid desc) (λ i. registered_stays c h e i refl (λ x k. refl))
    (λ i other. semaphore_by_wait c h sid desc here.x i here.held ∙ rw other refl)
    (counter_waited c h sid desc here.x here.held) k.agrees)
    k.agrees)

-- an accepted trywait
pub agrees_tried : (c : Config) (h : History) (t : TablesView) (sid : Sid) (desc : Desc) (o : ℕ) → IsCore c h t → IsHereSemaphore c h t sid.0 desc.0 o → Agrees c (after_accepted h (Do sid (SemTryWait desc))) (after_try t o)
agrees_tried c h t sid desc o k here =
    let e = Do sid (SemTryWait desc) in
    let q = quiet c h e refl in
    subst (λ (i : ℕ). Agrees c (after_accepted h e) (after_try t i)) here.same
    (moved c h _ t t.sessions _ q
    (sessions_same c h _ t.sessions q (parked_by_try c h sid desc) k.agrees.sessions)
    (semaphore_touched c h (after_accepted h e) t here.x.object tried q.holdings.objects (queue_by_try c h sid desc) (λ i. registered_stays c h e i refl (λ x k. refl))
    (λ i other. semaphore_by_try c h sid desc here.x i here.held ∙ rw other refl)
    (counter_tried c h sid desc here.x here.held) k.agrees)
    k.agrees)

-- an accepted notify on
on_tickets : (desc : Desc) (sid : Sid) (z : Attributes) (m n : Inside) → n.queue ≡ m.queue → m.registered ≡ None → n.registered ≡ Some (record { session = sid; desc = desc }) → tickets_of n.registered n.queue z ≡ with_registration desc (tickets_of m.registered m.queue z)
unfolding with_registration
on_tickets desc sid z m n q was now = rw (q, was, now) refl

pub agrees_registered : (c : Config) (h : History) (t : TablesView) (sid : Sid) (desc : Desc) (o : ℕ) → IsCore c h t → IsHereQueue c h t sid.0 desc.0 o → registered c h o ≡ None → Agrees c (after_accepted h (Do sid (MqNotify desc true))) (after_notify t o desc true)
agrees_registered c h t sid desc o k here none =
    let e = Do sid (MqNotify desc true) in
    let q = quiet c h e refl in
    let free = subst (λ (i : ℕ). registered c h i ≡ None) (sym here.same) none in
    subst (λ (i : ℕ). Agrees c (after_accepted h e) (after_notify t i desc true)) here.same
    (moved c h _ t t.sessions _ q
    (sessions_same c h _ t.sessions q (λ s. parked_by_others c h e s refl) k.agrees.sessions)
    (queue_touched c h (after_accepted h e) t here.x.object (with_registration desc) q.holdings.objects
    (λ i other. queue_by_others c h e i refl)
    (λ i other. registered_on_other c h sid desc here.x i here.held other)
    (λ i. semaphore_by_others c h e i refl)
    (λ z given. on_tickets desc sid z (inside c h here.x.object) (inside c (after_accepted h e) here.x.object) (queue_by_others c h e here.x.object refl) free (registered_on c h sid desc here.x here.held)) k.agrees)
    k.agrees)

-- an event that ends the registration of a description and leaves the other queues
off_tickets : (desc : Desc) (z : Attributes) (q : Queue) (g : Option Registration) → tickets_of (unless (λ y. eqb desc.0 y.desc.0) g) q z ≡ without_registration desc (tickets_of g q z)
unfolding without_registration
off_tickets desc z q None = refl
off_tickets desc z q (Some y) = rw (eqb_swapped desc.0 y.desc.0) (by_test (eqb y.desc.0 desc.0)) where
  by_test : (b : Bool) → tickets_of (cond b None (Some y)) q z ≡ cond b (tickets_of None q z) (tickets_of (Some y) q z)
  by_test true = refl
  by_test false = refl

kept_none : (p : Registration → Bool) (w : Option Registration) → ((x : Registration) → w ≡ Some x → p x ≡ false) → unless p w ≡ w
kept_none p None none = refl
kept_none p (Some x) none = ap (λ b. cond b None (Some x)) (none x refl)

queue_off : (c : Config) (h : History) (t : TablesView) (e : Event) (sid : Sid) (desc : Desc) (y : Held) → holds h sid.0 desc.0 ≡ Some y → ObjectsStay c h (after_accepted h e) → moves e ≡ false → ((i : ℕ) → first_value i e (is_bound h) (creations h) ≡ None) → ((i : ℕ) → registered c (after_accepted h e) i ≡ unless (λ x. eqb desc.0 x.desc.0) (registered c h i)) → Agrees c h t → changed_first (is_number y.object) (with_queue (without_registration desc)) t.objects ≡ gathered_below (row_with c (after_accepted h e) (inside c (after_accepted h e))) (creations (after_accepted h e))
queue_off c h t e sid desc y held u still none off =
    queue_touched c h (after_accepted h e) t y.object (without_registration desc) u
    (λ i other. queue_by_others c h e i still)
    (λ i other. off i ∙ kept_none (λ x. eqb desc.0 x.desc.0) (registered c h i) (λ x is. other_s_description c h i sid desc y x held other is))
    (λ i. semaphore_by_others c h e i still ∙ ap (λ v. with_first v (semaphore c h i)) (none i))
    (λ z given. ap (λ q. tickets_of (registered c (after_accepted h e) y.object) q z) (queue_by_others c h e y.object still) ∙ ap (λ g. tickets_of g (queue c h y.object) z) (off y.object) ∙ off_tickets desc z (queue c h y.object) (registered c h y.object))

-- an accepted notify off
pub agrees_unregistered : (c : Config) (h : History) (t : TablesView) (sid : Sid) (desc : Desc) (o : ℕ) → IsCore c h t → IsHereQueue c h t sid.0 desc.0 o → Agrees c (after_accepted h (Do sid (MqNotify desc false))) (after_notify t o desc false)
agrees_unregistered c h t sid desc o k here =
    let e = Do sid (MqNotify desc false) in
    let q = quiet c h e refl in
    subst (λ (i : ℕ). Agrees c (after_accepted h e) (after_notify t i desc false)) here.same
    (moved c h _ t t.sessions _ q
    (sessions_same c h _ t.sessions q (λ s. parked_by_others c h e s refl) k.agrees.sessions)
    (queue_off c h t e sid desc here.x here.held q.holdings.objects refl (λ i. refl) (λ i. registered_off c h sid desc here.x i here.held) k.agrees)
    k.agrees)

-- an accepted give: the description is the taker's, and its registration is gone
pub agrees_given : (c : Config) (h : History) (t : TablesView) (sid taker : Sid) (desc : Desc) (o : ℕ) → IsCore c h t → IsHereQueue c h t sid.0 desc.0 o → Agrees c (after_accepted h (Do sid (MqGive desc taker))) (after_notify (after_hand_over t desc.0 taker) o desc false)
agrees_given c h t sid taker desc o k here =
    let e = Do sid (MqGive desc taker) in
    let n = after_accepted h e in
    let g = grows c h e in
    let a = k.agrees in
    let p : GivesNothing e = record { owner = λ m. refl; group = λ m. refl; mode = λ m. refl } in
    let u : ObjectsStay c h n = record { alive' = alive_given h sid taker desc; object' = g.object_of; facts' = facts_made c h e p; creations' = g.creation_count; bindings' = g.bindings_of; directory' = directory_left h e p } in
    subst (λ (i : ℕ). Agrees c n (after_notify (after_hand_over t desc.0 taker) i desc false)) here.same
    (agrees_with c h n t t.sessions _ _ t.charges u
    (sessions_kept c h n e t.sessions g refl (λ s. refl) (λ s. refl) (λ s. refl) (λ s. parked_by_others c h e s refl) a.sessions)
    (queue_off c h t e sid desc here.x here.held u refl (λ i. refl) (λ i. registered_give c h sid taker desc here.x i here.held) a)
    (descriptions_passed h n t.descriptions desc.0 taker here.x (λ i other. other_held h sid taker desc i other) (holds_parts h sid.0 desc.0 here.x here.held).0 (given_held h sid taker desc here.x here.held) g.nonblock_of g.open_count a.descriptions)
    (charges_stay c h n t.charges u (λ v. limit_left c h e v refl) a.charges)
    a)

-- a timed call leaves what the same call without its deadline leaves
alike : (c : Config) (h : History) (t : TablesView) (e : Event) → is_quiet e ≡ true → is_quiet (plain e) ≡ true → Agrees c (after_accepted h (plain e)) t → Agrees c (after_accepted h e) t
alike c h t e silent plainly =
    unmoved c (after_accepted h (plain e)) (after_accepted h e) t (quiet_beside c h _ _ (quiet c h (plain e) plainly) (quiet c h e silent)) (parked_as_plain c h e)
    (λ o. inside_same c (after_accepted h (plain e)) (after_accepted h e) o (queue_as_plain c h e o) (registered_as_plain c h e o) (semaphore_as_plain c h e o))

pub agrees_plainly : (c : Config) (h : History) (t : TablesView) (e : Event) → Agrees c (after_accepted h (plain e)) t → Agrees c (after_accepted h e) t
agrees_plainly c h t (Do sid (MqTimedSend desc priority until bytes)) = alike c h t (Do sid (MqTimedSend desc priority until bytes)) refl refl
agrees_plainly c h t (Do sid (MqTimedReceive desc size until)) = alike c h t (Do sid (MqTimedReceive desc size until)) refl refl
agrees_plainly c h t (Do sid (SemTimedWait desc until)) = alike c h t (Do sid (SemTimedWait desc until)) refl refl
agrees_plainly c h t (Do sid call) = λ a. a
agrees_plainly c h t (Hello found) = λ a. a
agrees_plainly c h t (Hangup sid) = λ a. a
agrees_plainly c h t (Tick moment) = λ a. a

-- whether there is a verdict, as a test says
pub none_from : {X : Type 0} (o : Option X) (b : Bool) → is_some o ≡ not b → b ≡ true → o ≡ None
none_from None b e t = refl
none_from (Some x) b e t = absurd (let k = ap not (sym t) in cc)

pub some_from : {X : Type 0} (o : Option X) (b : Bool) → is_some o ≡ not b → b ≡ false → is_some o ≡ true
some_from o b e f = e ∙ ap not f

-- one more record with its verdict
pub core_accepted : (c : Config) (h : History) (t u : TablesView) (e : Event) (rule : Option Rule) → IsCore c h t → rule ≡ verdict c h e → rule ≡ None → Agrees c (after_accepted h e) u → IsCore c (record { event = e; rule = rule } ∷ h) u
core_accepted c h t u e rule k is none a = record { in_range = k.in_range; legal = (is, k.legal); agrees = rw none a }

pub core_refused : (c : Config) (h : History) (t : TablesView) (e : Event) (rule : Option Rule) → IsCore c h t → rule ≡ verdict c h e → is_some rule ≡ true → IsCore c (record { event = e; rule = rule } ∷ h) t
core_refused c h t e None k is some = absurd cc
core_refused c h t e (Some rule) k is some = record { in_range = k.in_range; legal = (is, k.legal); agrees = agrees_as c h (record { event = e; rule = Some rule } ∷ h) t (same_values c h e rule) k.agrees }

-- the tables of no history
pub core_new : (c : Config) → first_bad c.limits ≡ None → IsCore c [] (first_tables c.users)
unfolding hellos user live mask creations bindings object facts directory directory_owner directory_group directory_mode opens held parked
core_new c in_range = record {
  in_range = in_range;
  legal = tt;
  agrees = record {
    sessions = record { users = λ s. refl; masks = λ s row e. absurd cc; lives = λ s. refl; parks = λ s. refl; count = refl };
    queues = record { bound = refl; facts = refl };
    semaphores = record { bound = refl; facts = refl };
    objects = record { rows = refl; count = refl };
    descriptions = record { rows = refl; opened = refl };
    charges = charges_first c;
  };
}
