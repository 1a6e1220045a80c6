-- What a post, a wait and a trywait do to the tables of sessions and of semaphores.
use Rattle.std.proofs.Common.{◌≡◌, ℕ, ◌<◌, Bool, true, false, ◌&&◌, eqb, cond, List, length, map, Option, Some, None, is_some, refl, sym, ap, subst, ◌∙◌}
use Rattle.std.specs.Prelude.{option_and_then}
use Rattle.std.specs.Option.{option_map}
use Rattle.std.proofs.lemmas.Bool.{eq-eqb}
use Rattle.ipc_terms.specs.Lists.{first}
use Rattle.ipc_terms.specs.Objects.{as_semaphore}
use Rattle.ipc_terms.specs.declared.object.TheConstants.{SEM_VALUE_MAX}
use Rattle.ipc_terms.specs.declared.ids.Sid.{Sid}
use Rattle.ipc_terms.specs.declared.ids.Desc.{Desc}
use Rattle.ipc_terms.specs.declared.call.Call.TheVariants.{SemPost, SemWait, SemTryWait}
use Rattle.ipc_terms.specs.declared.record.Event.TheVariants.{Do}
use Rattle.ipc_sem.specs.declared.semaphore.WaitOutcome.TheVariants.{Passed, Parked as WaitParks}
use Rattle.ipc_sem.specs.Counters.{Counter, has_no_waiter, overflows, posted, wait_outcome, waited, tried, withdrawn}
use Rattle.ipc_policy.specs.declared.config.Config.{Config}
use Rattle.ipc_policy.specs.declared.config.Held.{Held}
use Rattle.ipc_policy.specs.Decides.History.{History, after_accepted, is_some_and}
use Rattle.ipc_policy.specs.Decides.Sessions.{hellos, user, live, mask}
use Rattle.ipc_policy.specs.Decides.Objects.{object}
use Rattle.ipc_policy.specs.Decides.Descriptions.{holds}
use Rattle.ipc_policy.specs.Decides.Life.{alive}
use Rattle.ipc_policy.specs.Decides.Queues.{Waiter}
use Rattle.ipc_policy.specs.Decides.Semaphores.{Posts, Waits, Tries, WithdrawsWait, Semaphore, semaphore_after}
use Rattle.ipc_policy.specs.Decides.Bodies.{semaphore, waiters, is_zero, is_greatest}
use Rattle.ipc_policy.specs.Decides.Verdict.{verdict, Legal}
use Rattle.ipc_policy.proofs.Lists.EachItem.{each_first, each_map}
use Rattle.ipc_policy.proofs.Blocked.CallsListed.{calls_listed}
use Rattle.ipc_policy.proofs.Blocked.ParkedSessions.{waiters_differ}
use Rattle.ipc_policy.proofs.Histories.Unforbidden.{post_below_greatest}
use Rattle.ipc_policy.proofs.Semaphores.ValueCounts.{is_zero-at, is_greatest-at}
use Rattle.ipc_policy.proofs.Blocked.WaitSteps.{semaphore_by_post, semaphore_by_wait, semaphore_by_try}
use Rattle.ipc_tables.specs.declared.rows.Session.{Session}
use Rattle.ipc_tables.specs.Objects.{semaphore_at}
use Rattle.ipc_tables.specs.TablesView.{TablesView}
use Rattle.ipc_tables.specs.Steps.{parked_by_post, parked_by_wait, waiter_at}
use Rattle.ipc_state.specs.Agrees.{Agrees, SessionsAgree, receiver_of, counter_of}
use Rattle.ipc_state.proofs.Mapped.{longest_mapped}
use Rattle.ipc_state.proofs.Lookups.{semaphore_alive}
use Rattle.ipc_state.proofs.SemaphoreSteps.{posted_is, waited_is, tried_is, cancelled_is}
use Rattle.ipc_state.proofs.ParkedColumn.{parked_object, column_after}
use Rattle.ipc_state.proofs.SessionTables.{Columns, columns_of, columns_moved}
use Rattle.ipc_state.proofs.Serving.{IsHereSemaphore, parked_stands}

-- the semaphore of an object that is alive, as it is kept
pub semaphore_there : (c : Config) (h : History) (t : TablesView) (o first_value : ℕ) → Legal c h → Agrees c h t → alive h o ≡ true → as_semaphore (object c h o) ≡ Some first_value → semaphore_at t.objects o ≡ Some (counter_of (semaphore c h o))
semaphore_there c h t o first_value legal a lives e = semaphore_alive c h t o legal a lives ∙ ap (option_map (λ v. counter_of (semaphore c h o))) e

-- it stands in the table, where a call by a description of it is accepted
pub semaphore_stands : (c : Config) (h : History) (t : TablesView) (s d o : ℕ) → Legal c h → Agrees c h t → IsHereSemaphore c h t s d o → is_some (semaphore_at t.objects o) ≡ true
semaphore_stands c h t s d o legal a here = subst (λ (i : ℕ). is_some (semaphore_at t.objects i) ≡ true) here.same (ap is_some (semaphore_there c h t here.x.object here.given legal a here.lives here.made))

-- who waits longest
waiter_told : (c : Config) (h : History) (t : TablesView) (o first_value : ℕ) → Legal c h → Agrees c h t → alive h o ≡ true → as_semaphore (object c h o) ≡ Some first_value → waiter_at t.objects o ≡ option_map receiver_of (first (waiters c h o))
waiter_told c h t o first_value legal a lives e = ap (option_and_then (λ (q : Counter). first q.waiters)) (semaphore_there c h t o first_value legal a lives e) ∙ longest_mapped receiver_of (waiters c h o)

waiter_stands : (c : Config) (h : History) (xs : List Session) (o : ℕ) (w : Waiter) → Legal c h → SessionsAgree c h xs → first (waiters c h o) ≡ Some w → w.session < length xs
waiter_stands c h xs o w legal a e = each_first (λ (v : Waiter). v.session < length xs) (waiters c h o) (each_map _ (λ (v : Waiter). v.session < length xs) (waiters c h o) (λ v is. parked_stands c h xs v.session _ a is) ((calls_listed c h legal).each_wait o)) w e

-- what an accepted post raises has room for it
no_overflow : (b d : Bool) → d ≡ false → (b && d) ≡ false
no_overflow true d e = e
no_overflow false d e = refl

overflow_at : (q : Semaphore) → eqb q.running SEM_VALUE_MAX ≡ false → overflows (counter_of q) ≡ false
unfolding overflows
overflow_at q e = no_overflow (has_no_waiter (map receiver_of q.waiters)) (eqb q.running SEM_VALUE_MAX) e

pub post_room : (c : Config) (h : History) (t : TablesView) (sid : Sid) (desc : Desc) (o : ℕ) → Legal c h → Agrees c h t → verdict c h (Do sid (SemPost desc)) ≡ None → IsHereSemaphore c h t sid.0 desc.0 o → option_map overflows (semaphore_at t.objects o) ≡ Some false
post_room c h t sid desc o legal a accepted here =
    let low : is_greatest c h here.x.object ≡ false = ap (is_some_and (λ (x : Held). is_greatest c h x.object)) (sym here.held) ∙ post_below_greatest c h sid desc accepted in
    let below = sym (is_greatest-at c h here.x.object legal (ap is_some here.made)) ∙ low in
    subst (λ (i : ℕ). option_map overflows (semaphore_at t.objects i) ≡ Some false) here.same
    (ap (option_map overflows) (semaphore_there c h t here.x.object here.given legal a here.lives here.made) ∙ ap Some (overflow_at (semaphore c h here.x.object) below))

-- what a post and a wait do to the table of sessions
posted_column : (c : Config) (h : History) (xs : List Session) (o : ℕ) (sid : Sid) → SessionsAgree c h xs → (r : Option Waiter) → ((w : Waiter) → r ≡ Some w → w.session < length xs) → Columns (parked_by_post (option_map receiver_of r) xs) (hellos h) (user h) (mask h) (live h) (column_after (option_map (λ (w : Waiter). w.session) r) false sid.0 o (parked_object c h))
posted_column c h xs o sid a (Some w) there = columns_moved xs (hellos h) (user h) (mask h) (live h) (parked_object c h) None w.session (there w refl) (columns_of c h xs a)
posted_column c h xs o sid a None there = columns_of c h xs a

pub sessions_posted : (c : Config) (h : History) (t : TablesView) (o first_value : ℕ) (sid : Sid) → Legal c h → Agrees c h t → alive h o ≡ true → as_semaphore (object c h o) ≡ Some first_value → Columns (parked_by_post (waiter_at t.objects o) t.sessions) (hellos h) (user h) (mask h) (live h) (column_after (option_map (λ (w : Waiter). w.session) (first (waiters c h o))) false sid.0 o (parked_object c h))
sessions_posted c h t o first_value sid legal a lives e =
    rw (waiter_told c h t o first_value legal a lives e) (posted_column c h t.sessions o sid a.sessions (first (waiters c h o)) (λ w is. waiter_stands c h t.sessions o w legal a.sessions is))

waited_column : (c : Config) (h : History) (xs : List Session) (o : ℕ) (sid : Sid) → SessionsAgree c h xs → sid.0 < length xs → (b : Bool) → Columns (parked_by_wait o sid (Some (cond b WaitParks Passed)) xs) (hellos h) (user h) (mask h) (live h) (column_after None b sid.0 o (parked_object c h))
waited_column c h xs o sid a lt true = columns_moved xs (hellos h) (user h) (mask h) (live h) (parked_object c h) (Some o) sid.0 lt (columns_of c h xs a)
waited_column c h xs o sid a lt false = columns_of c h xs a

outcome_is : (q : Semaphore) → wait_outcome (counter_of q) ≡ cond (eqb q.running 0) WaitParks Passed
unfolding wait_outcome
outcome_is q = refl

pub sessions_waited : (c : Config) (h : History) (t : TablesView) (o first_value : ℕ) (sid : Sid) → Legal c h → Agrees c h t → alive h o ≡ true → as_semaphore (object c h o) ≡ Some first_value → sid.0 < length t.sessions → Columns (parked_by_wait o sid (option_map wait_outcome (semaphore_at t.objects o)) t.sessions) (hellos h) (user h) (mask h) (live h) (column_after None (is_zero c h o) sid.0 o (parked_object c h))
sessions_waited c h t o first_value sid legal a lives e lt =
    let zero : eqb (semaphore c h o).running 0 ≡ is_zero c h o = sym (is_zero-at c h o legal (ap is_some e)) in
    let told : option_map wait_outcome (semaphore_at t.objects o) ≡ Some (cond (is_zero c h o) WaitParks Passed) = ap (option_map wait_outcome) (semaphore_there c h t o first_value legal a lives e) ∙ ap Some (outcome_is (semaphore c h o)) ∙ ap (λ b. Some (cond b WaitParks Passed)) zero in
    rw told (waited_column c h t.sessions o sid a.sessions lt (is_zero c h o))

-- what they do to the semaphore
pub counter_posted : (c : Config) (h : History) (sid : Sid) (desc : Desc) (x : Held) → holds h sid.0 desc.0 ≡ Some x → counter_of (semaphore c (after_accepted h (Do sid (SemPost desc))) x.object) ≡ posted (counter_of (semaphore c h x.object))
counter_posted c h sid desc x held =
    ap counter_of (semaphore_by_post c h sid desc x x.object held ∙ ap (λ b. cond b (semaphore_after Posts (semaphore c h x.object)) (semaphore c h x.object)) (eq-eqb x.object x.object refl))
    ∙ posted_is (semaphore c h x.object)

pub counter_waited : (c : Config) (h : History) (sid : Sid) (desc : Desc) (x : Held) → holds h sid.0 desc.0 ≡ Some x → counter_of (semaphore c (after_accepted h (Do sid (SemWait desc))) x.object) ≡ waited sid (counter_of (semaphore c h x.object))
counter_waited c h sid desc x held =
    let w : Waiter = record { place = length h; session = sid.0; desc = desc.0 } in
    ap counter_of (semaphore_by_wait c h sid desc x x.object held ∙ ap (λ b. cond b (semaphore_after (Waits w) (semaphore c h x.object)) (semaphore c h x.object)) (eq-eqb x.object x.object refl))
    ∙ waited_is w (semaphore c h x.object)

pub counter_tried : (c : Config) (h : History) (sid : Sid) (desc : Desc) (x : Held) → holds h sid.0 desc.0 ≡ Some x → counter_of (semaphore c (after_accepted h (Do sid (SemTryWait desc))) x.object) ≡ tried (counter_of (semaphore c h x.object))
counter_tried c h sid desc x held =
    ap counter_of (semaphore_by_try c h sid desc x x.object held ∙ ap (λ b. cond b (semaphore_after Tries (semaphore c h x.object)) (semaphore c h x.object)) (eq-eqb x.object x.object refl))
    ∙ tried_is (semaphore c h x.object)

pub counter_cancelled : (c : Config) (h : History) (sid : Sid) (o : ℕ) → Legal c h → counter_of (semaphore_after (WithdrawsWait sid.0) (semaphore c h o)) ≡ withdrawn sid (counter_of (semaphore c h o))
counter_cancelled c h sid o legal = cancelled_is sid (semaphore c h o) (waiters_differ c h legal o)
