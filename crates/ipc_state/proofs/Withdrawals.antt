-- Accepted interrupts and ticks: the parked call that one withdraws, where there is one.
use Rattle.std.proofs.Common.{◌≡◌, ℕ, ◌<◌, Bool, true, false, eqb, cond, length, Option, Some, None, refl, sym, ap, subst, ◌∙◌}
use Rattle.std.specs.Option.{option_map}
use Rattle.std.proofs.lemmas.Bool.{eqb-true, ne_eqb}
use Rattle.ipc_terms.specs.declared.ids.Sid.{Sid}
use Rattle.ipc_terms.specs.declared.call.Call.TheVariants.{Interrupt}
use Rattle.ipc_terms.specs.declared.object.Kind.{Kind}
use Rattle.ipc_terms.specs.declared.object.Kind.TheVariants.{Queue as QueueKind, Semaphore as SemaphoreKind}
use Rattle.ipc_terms.specs.declared.record.Event.TheVariants.{Do, Tick}
use Rattle.ipc_policy.specs.declared.config.Config.{Config}
use Rattle.ipc_policy.specs.Decides.Registrations.{registered}
use Rattle.ipc_policy.proofs.Queues.RegisteredSteps.{registered_stays}
use Rattle.ipc_policy.specs.Decides.History.{History, after_accepted, is_some_and, gathered_below}
use Rattle.ipc_policy.specs.Decides.Sessions.{hellos, user, live, mask}
use Rattle.ipc_policy.specs.Decides.Names.{creations}
use Rattle.ipc_policy.specs.Decides.Queues.{Withdraws, withdrawal, queue_after, maxmsg}
use Rattle.ipc_policy.specs.Decides.Semaphores.{WithdrawsWait, wait_withdrawal, semaphore_after}
use Rattle.ipc_policy.specs.Decides.Bodies.{queue, semaphore, due}
use Rattle.ipc_policy.specs.Decides.Parking.{Parked, parked}
use Rattle.ipc_policy.specs.Decides.Verdict.{Legal}
use Rattle.ipc_policy.proofs.Blocked.ParkedSessions.{withdrawn_elsewhere, cancelled_elsewhere}
use Rattle.ipc_policy.proofs.Blocked.WaitSteps.{semaphore_by_interrupt}
use Rattle.ipc_policy.proofs.Blocked.ParkedSteps.{queue_by_interrupt}
use Rattle.ipc_policy.proofs.Blocked.TimedSteps.{registered_by_tick, queue_by_tick, semaphore_by_tick, parked_by_tick}
use Rattle.ipc_tables.specs.Objects.{without_call}
use Rattle.ipc_tables.specs.declared.rows.Body.TheVariants.{Queue as QueueBody, Semaphore as SemaphoreBody}
use Rattle.ipc_tables.specs.TablesView.{TablesView, parked_on_at}
use Rattle.ipc_tables.specs.Steps.{after_withdrawal}
use Rattle.ipc_state.specs.Agrees.{Agrees, IsCore, row_with, Inside, inside, body_of}
use Rattle.ipc_state.proofs.SessionTables.{Columns, columns_of, columns_moved}
use Rattle.ipc_state.proofs.ParkedColumn.{parked_object, column_by_interrupt, column_by_tick}
use Rattle.ipc_state.proofs.Posting.{counter_cancelled}
use Rattle.ipc_state.proofs.Serving.{queue_withdrawn}
use Rattle.ipc_state.proofs.ObjectTables.{rows_kept, rows_changed}
use Rattle.ipc_state.proofs.Leaving.{Quiet, quiet, inside_same, sessions_moved, moved, unmoved}

-- a withdrawal: the tables of sessions and of objects, where the session was parked on this object, if on one
pub record IsWithdrawn (c : Config) (h : History) (t u : TablesView) (sid : Sid) (q : ℕ → Inside) : Type 0 where
  pub sessions : Columns u.sessions (hellos h) (user h) (mask h) (live h) (λ s. cond (eqb sid.0 s) None (parked_object c h s))
  pub rows : u.objects ≡ gathered_below (row_with c h q) (creations h)
  pub others : u ≡ record t { sessions = u.sessions; objects = u.objects }

unparked : (c : Config) (h : History) (sid : Sid) → parked c h sid.0 ≡ None → (s : ℕ) → parked_object c h s ≡ cond (eqb sid.0 s) None (parked_object c h s)
unparked c h sid e s = at (eqb sid.0 s) refl where
  at : (b : Bool) → eqb sid.0 s ≡ b → parked_object c h s ≡ cond b None (parked_object c h s)
  at true k = ap (parked_object c h) (sym (eqb-true _ _ k)) ∙ ap (option_map (λ (p : Parked). p.object)) e
  at false k = refl

-- what stands in an object without the call of the session
abbrev pub without_calls : Config → History → Sid → ℕ → Inside
without_calls c h sid o = record { queue = queue_after (maxmsg c h o) (Withdraws sid.0) (queue c h o); registered = registered c h o; semaphore = semaphore_after (WithdrawsWait sid.0) (semaphore c h o) }

left_elsewhere : (c : Config) (h : History) (sid : Sid) (o : ℕ) → Legal c h → is_some_and (λ x. eqb x.object o) (parked c h sid.0) ≡ false → without_calls c h sid o ≡ inside c h o
left_elsewhere c h sid o legal away = rw (withdrawn_elsewhere c h legal (maxmsg c h o) sid.0 o away, cancelled_elsewhere c h legal sid.0 o away) refl

body_withdrawn : (c : Config) (h : History) (sid : Sid) (o : ℕ) (kind : Kind) → Legal c h → body_of kind (without_calls c h sid o) ≡ without_call sid (body_of kind (inside c h o))
body_withdrawn c h sid o (QueueKind given) legal = ap QueueBody (queue_withdrawn c h sid o (maxmsg c h o) given legal)
body_withdrawn c h sid o (SemaphoreKind value) legal = ap SemaphoreBody (counter_cancelled c h sid o legal)

pub withdrawn_at : (c : Config) (h : History) (t : TablesView) (sid : Sid) (q : ℕ → Inside) → IsCore c h t → ((o : ℕ) → q o ≡ without_calls c h sid o) → sid.0 < length t.sessions → (w : Option Parked) → parked c h sid.0 ≡ w → IsWithdrawn c h t (after_withdrawal t sid) sid q
withdrawn_at c h t sid q k made lt None e =
    let none : parked_on_at t.sessions sid.0 ≡ None = k.agrees.sessions.parks sid.0 ∙ ap (option_map (λ (p : Parked). p.object)) e in
    rw none (record {
      sessions = record { users = k.agrees.sessions.users; masks = k.agrees.sessions.masks; lives = k.agrees.sessions.lives; parks = λ s. k.agrees.sessions.parks s ∙ unparked c h sid e s; count = k.agrees.sessions.count };
      rows = k.agrees.objects.rows ∙ rows_kept c h h q (inside c h) (λ o. refl) (λ o. refl) (λ o. refl) (λ o. made o ∙ left_elsewhere c h sid o k.legal (ap (is_some_and (λ x. eqb x.object o)) e)) refl;
      others = refl;
    })
withdrawn_at c h t sid q k made lt (Some p) e =
    let some : parked_on_at t.sessions sid.0 ≡ Some p.object = k.agrees.sessions.parks sid.0 ∙ ap (option_map (λ (p : Parked). p.object)) e in
    rw some (record {
      sessions = columns_moved t.sessions (hellos h) (user h) (mask h) (live h) (parked_object c h) None sid.0 lt (columns_of c h t.sessions k.agrees.sessions);
      rows = rows_changed c h h q t.objects t.created p.object (without_call sid) (λ i. refl) (λ i. refl) (λ i. refl)
          (λ i ne. made i ∙ left_elsewhere c h sid i k.legal (ap (is_some_and (λ x. eqb x.object i)) e ∙ ne_eqb p.object i (λ q. ne (sym q))))
          (λ x is. ap (body_of x.kind) (made p.object) ∙ body_withdrawn c h sid p.object x.kind k.legal)
          refl k.agrees.objects;
      others = refl;
    })

-- a quiet event that does so
withdrawn_by : (c : Config) (h n : History) (t u : TablesView) (sid : Sid) → Quiet c h n → ((s : ℕ) → parked_object c n s ≡ cond (eqb sid.0 s) None (parked_object c h s)) → Agrees c h t → IsWithdrawn c h t u sid (inside c n) → Agrees c n (record t { sessions = u.sessions; objects = u.objects })
withdrawn_by c h n t u sid q column a w =
    let v = q.holdings.objects in
    moved c h n t u.sessions u.objects q (sessions_moved c h n u.sessions (λ s. cond (eqb sid.0 s) None (parked_object c h s)) q column w.sessions) (w.rows ∙ rows_kept c h n (inside c n) (inside c n) v.alive' v.object' v.facts' (λ o. refl) v.creations') a

agrees_withdrawn : (c : Config) (h n : History) (t : TablesView) (sid : Sid) → Quiet c h n → ((s : ℕ) → parked_object c n s ≡ cond (eqb sid.0 s) None (parked_object c h s)) → ((o : ℕ) → inside c n o ≡ without_calls c h sid o) → IsCore c h t → sid.0 < length t.sessions → Agrees c n (after_withdrawal t sid)
agrees_withdrawn c h n t sid q column same k lt =
    let w = withdrawn_at c h t sid (inside c n) k same lt (parked c h sid.0) refl in
    subst (Agrees c n) (sym w.others) (withdrawn_by c h n t (after_withdrawal t sid) sid q column k.agrees w)

-- an accepted interrupt
interrupt_inside : (c : Config) (h : History) (sid : Sid) (o : ℕ) → inside c (after_accepted h (Do sid Interrupt)) o ≡ without_calls c h sid o
interrupt_inside c h sid o = rw (queue_by_interrupt c h sid o, registered_stays c h (Do sid Interrupt) o refl (λ x k. refl), semaphore_by_interrupt c h sid o) refl

pub agrees_interrupted : (c : Config) (h : History) (t : TablesView) (sid : Sid) → IsCore c h t → sid.0 < length t.sessions → Agrees c (after_accepted h (Do sid Interrupt)) (after_withdrawal t sid)
agrees_interrupted c h t sid = agrees_withdrawn c h (after_accepted h (Do sid Interrupt)) t sid (quiet c h (Do sid Interrupt) refl) (column_by_interrupt c h sid) (interrupt_inside c h sid)

-- a tick ends the call of the session that is due
tick_inside : (c : Config) (h : History) (moment : ℕ) (sid : Sid) (o : ℕ) → due c h moment ≡ Some sid.0 → inside c (after_accepted h (Tick moment)) o ≡ without_calls c h sid o
tick_inside c h moment sid o is = rw (queue_by_tick c h moment o, registered_by_tick c h moment o, semaphore_by_tick c h moment o, is) refl

pub agrees_timed_out : (c : Config) (h : History) (t : TablesView) (moment : ℕ) (sid : Sid) → due c h moment ≡ Some sid.0 → IsCore c h t → sid.0 < length t.sessions → Agrees c (after_accepted h (Tick moment)) (after_withdrawal t sid)
agrees_timed_out c h t moment sid is = agrees_withdrawn c h (after_accepted h (Tick moment)) t sid (quiet c h (Tick moment) refl) (λ s. column_by_tick c h moment sid s is) (λ o. tick_inside c h moment sid o is)

-- and where none is due, it changes nothing
pub agrees_ticked : (c : Config) (h : History) (t : TablesView) (moment : ℕ) → due c h moment ≡ None → Agrees c h t → Agrees c (after_accepted h (Tick moment)) t
agrees_ticked c h t moment none =
    unmoved c h (after_accepted h (Tick moment)) t (quiet c h (Tick moment) refl)
    (λ s. parked_by_tick c h moment s ∙ ap (λ w. cond (is_some_and (λ i. eqb s i) w) None (parked c h s)) none)
    (λ o. inside_same c h _ o
    (queue_by_tick c h moment o ∙ ap (λ w. queue_after (maxmsg c h o) (withdrawal w) (queue c h o)) none)
    (registered_by_tick c h moment o)
    (semaphore_by_tick c h moment o ∙ ap (λ w. semaphore_after (wait_withdrawal w) (semaphore c h o)) none))
