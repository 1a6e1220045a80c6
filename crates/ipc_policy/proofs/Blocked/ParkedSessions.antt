-- In a legal history a parked session is live and holds a description of its object, which is alive; and no other list
-- has the session.
use Rattle.std.proofs.Common.{◌≡◌, ℕ, ◌+◌, ◌<◌, Bool, true, false, not, ◌&&◌, ◌||◌, eqb, List, [], ◌∷◌, length, cond, Option, Some, None, is_some, inl, inr, ◌⊎◌, refl, sym, ap, subst, ◌∙◌, arith}
use Rattle.std.specs.Prelude.{filter, option_and_then}
use Rattle.std.specs.Option.{option_or, option_map}
use Rattle.std.proofs.lemmas.Bool.{eqb-true, eqb-false, eq-eqb, ne_eqb}
use Rattle.ipc_terms.specs.declared.rule.Rule.{Rule}
use Rattle.ipc_terms.specs.declared.ids.Sid.{Sid}
use Rattle.ipc_terms.specs.declared.ids.Desc.{Desc}
use Rattle.ipc_terms.specs.declared.call.Call.{Call}
use Rattle.ipc_terms.specs.declared.call.Call.TheVariants.{MqOpen, MqClose, MqSend, MqReceive, MqGive, SemOpen, SemClose, SemWait, MqTimedSend, MqTimedReceive, SemTimedWait}
use Rattle.ipc_terms.specs.declared.record.Event.{Event}
use Rattle.ipc_terms.specs.declared.record.Event.TheVariants.{Hello, Do, Hangup, Tick}
use Rattle.ipc_policy.specs.declared.config.Config.{Config}
use Rattle.ipc_policy.specs.declared.config.Held.{Held}
use Rattle.ipc_terms.specs.declared.object.Object.{Object}
use Rattle.ipc_policy.specs.Decides.History.{History, unless, is_some_and, any_below}
use Rattle.ipc_policy.specs.Decides.Sessions.{hellos, live}
use Rattle.ipc_policy.specs.Decides.Names.{queue_opening, semaphore_opening, is_bound, creations, bound}
use Rattle.ipc_policy.specs.Decides.Objects.{object, made_by}
use Rattle.ipc_policy.specs.Decides.Sessions.{cred}
use Rattle.ipc_policy.specs.Decides.Descriptions.{opens, if_of, held, holds, ends_held}
use Rattle.ipc_policy.specs.Decides.Life.{named, alive, gives_object}
use Rattle.ipc_policy.specs.Decides.Queues.{Send, Waiter, Withdraws, Queue, queue_after}
use Rattle.ipc_policy.specs.Decides.Semaphores.{WithdrawsWait, semaphore_after}
use Rattle.ipc_policy.specs.Decides.Bodies.{queue, senders, receivers, is_full, is_empty, semaphore, waiters, is_zero}
use Rattle.ipc_policy.specs.Decides.Parking.{ParkedKind, Sending, Receiving, Waiting, Parked, parks, parked_on, serves, is_longest, ends_call, ends_parked, parked}
use Rattle.ipc_terms.specs.Lists.{Each}
use Rattle.ipc_policy.specs.Follows.Readings.{Rising}
use Rattle.ipc_policy.specs.Follows.Grow.{live_after, held_after, made_after, is_new}
use Rattle.ipc_policy.specs.Decides.Verdict.{verdict, Legal}
use Rattle.ipc_policy.specs.Follows.Laws.{IsParked}
use Rattle.ipc_policy.proofs.Holdings.Holding.{held_below, held_grows}
use Rattle.ipc_policy.proofs.Lists.Gathering.{any_below_at}
use Rattle.ipc_policy.proofs.Directories.Creating.{holds_is_held}
use Rattle.ipc_policy.proofs.Histories.Growing.{live_grows}
use Rattle.ipc_policy.proofs.Histories.Grown.{grows}
use Rattle.ipc_policy.proofs.Lists.EachItem.{each_map}
use Rattle.ipc_policy.proofs.Histories.Unforbidden.{caller_live}
use Rattle.ipc_policy.proofs.Queues.ActsOf.{held_queue, queue_is_object, held_semaphore, semaphore_is_object}
use Rattle.ipc_policy.proofs.Blocked.Waits.{or_left}
use Rattle.ipc_policy.proofs.Blocked.ParkedPlaces.{parked_by_place}
use Rattle.ipc_policy.proofs.Blocked.CallsListed.{another_call, parked_cases, calls_listed}

-- what parks is a send, a receive or a wait of this session, by a description that it holds
pub record ParksBy (c : Config) (h : History) (e : Event) (s : ℕ) (p : Parked) : Type 0 where
  pub sid : Sid
  pub call : Call
  pub desc : ℕ
  pub x : Held
  pub event : e ≡ Do sid call
  pub session : sid.0 ≡ s
  pub held : holds h s desc ≡ Some x
  pub gives : x.object ≡ p.object
  pub made : None ≡ verdict c h e → is_some (object c h p.object) ≡ true

on_object : (test : ℕ → Bool) (kind : ParkedKind) (place : ℕ) (x : Held) (p : Parked) → parked_on test kind place x ≡ Some p → x.object ≡ p.object
on_object test kind place x p e = at (test x.object) e where
  at : (b : Bool) → cond b (Some (record { object = x.object; place = place; kind = kind })) None ≡ Some p → x.object ≡ p.object
  at true k = let same : record { object = x.object; place = place; kind = kind } ≡ p = cc in ap (λ (y : Parked). y.object) same
  at false k = absurd cc

-- a call by a description, where the test says so of what it gives, and an accepted call is given an object
parks_there : (c : Config) (h : History) (sid : Sid) (call : Call) (desc : Desc) (test : ℕ → Bool) (kind : ParkedKind) (s : ℕ) (p : Parked) → ((x : Held) → None ≡ verdict c h (Do sid call) → holds h sid.0 desc.0 ≡ Some x → is_some (object c h x.object) ≡ true) → cond (eqb sid.0 s) (option_and_then (parked_on test kind (length h)) (holds h sid.0 desc.0)) None ≡ Some p → ParksBy c h (Do sid call) s p
parks_there c h sid call desc test kind s p there k = mine (eqb sid.0 s) refl k where
  given : sid.0 ≡ s → (y : Option Held) → holds h sid.0 desc.0 ≡ y → option_and_then (parked_on test kind (length h)) y ≡ Some p → ParksBy c h (Do sid call) s p
  given same None q j = absurd cc
  given same (Some x) q j =
      let on : x.object ≡ p.object = on_object test kind (length h) x p j in
      record {
        sid = sid;
        call = call;
        desc = desc.0;
        x = x;
        event = refl;
        session = same;
        held = subst (λ (n : ℕ). holds h n desc.0 ≡ Some x) same q;
        gives = on;
        made = λ legal. subst (λ (n : ℕ). is_some (object c h n) ≡ true) on (there x legal q);
      }

  mine : (b : Bool) → eqb sid.0 s ≡ b → cond b (option_and_then (parked_on test kind (length h)) (holds h sid.0 desc.0)) None ≡ Some p → ParksBy c h (Do sid call) s p
  mine true q j = given (eqb-true _ _ q) (holds h sid.0 desc.0) refl j
  mine false q j = absurd cc

pub parks_by_call : (c : Config) (h : History) (e : Event) (s : ℕ) (p : Parked) → parks c s e h ≡ Some p → ParksBy c h e s p
parks_by_call c h (Do sid (MqSend desc priority bytes)) s p k = parks_there c h sid (MqSend desc priority bytes) desc (is_full c h) Sending s p (λ x legal q. queue_is_object c h x.object (held_queue c h sid (MqSend desc priority bytes) desc x legal refl q)) k
parks_by_call c h (Do sid (MqReceive desc length')) s p k = parks_there c h sid (MqReceive desc length') desc (is_empty c h) Receiving s p (λ x legal q. queue_is_object c h x.object (held_queue c h sid (MqReceive desc length') desc x legal refl q)) k
parks_by_call c h (Do sid (SemWait desc)) s p k = parks_there c h sid (SemWait desc) desc (is_zero c h) Waiting s p (λ x legal q. semaphore_is_object c h x.object (held_semaphore c h sid (SemWait desc) desc x legal refl q)) k
parks_by_call c h (Do sid (MqTimedSend desc priority until bytes)) s p k = parks_there c h sid (MqTimedSend desc priority until bytes) desc (is_full c h) Sending s p (λ x legal q. queue_is_object c h x.object (held_queue c h sid (MqTimedSend desc priority until bytes) desc x legal refl q)) k
parks_by_call c h (Do sid (MqTimedReceive desc size until)) s p k = parks_there c h sid (MqTimedReceive desc size until) desc (is_empty c h) Receiving s p (λ x legal q. queue_is_object c h x.object (held_queue c h sid (MqTimedReceive desc size until) desc x legal refl q)) k
parks_by_call c h (Do sid (SemTimedWait desc until)) s p k = parks_there c h sid (SemTimedWait desc until) desc (is_zero c h) Waiting s p (λ x legal q. semaphore_is_object c h x.object (held_semaphore c h sid (SemTimedWait desc until) desc x legal refl q)) k
parks_by_call c h (Do sid call) s p k = absurd cc
parks_by_call c h (Hello found) s p k = absurd cc
parks_by_call c h (Hangup sid) s p k = absurd cc
parks_by_call c h (Tick moment) s p k = absurd cc

-- whose call parks is live
parks_live : (c : Config) (h : History) (e : Event) (s : ℕ) (p : Parked) → None ≡ verdict c h e → parks c s e h ≡ Some p → live_after s e (hellos h) (live h s) ≡ true
parks_live c h e s p legal k =
    let by = parks_by_call c h e s p k in
    let now : live h s ≡ true = subst (λ (n : ℕ). live h n ≡ true) by.session (caller_live c h by.sid by.call (sym (subst (λ (d : Event). None ≡ verdict c h d) by.event legal))) in
    subst (λ (d : Event). live_after s d (hellos h) (live h s) ≡ true) (sym by.event) now

or_true : (a b : Bool) → b ≡ true → (a || b) ≡ true
or_true true b e = refl
or_true false b e = e

-- a hang-up that does not end a session's call is another's
another_hangup : (s : ℕ) (p : Parked) (sid : Sid) (q : Queue) → ends_call s p (Withdraws sid.0) q ≡ false → eqb sid.0 s ≡ false
another_hangup s p sid q e = ne_eqb _ _ (λ (k : sid.0 ≡ s). eqb-false _ _ (or_left (eqb s sid.0) (serves p.kind (Withdraws sid.0) && is_longest p.kind p.place q) e) (sym k))

stays_live : (c : Config) (h : History) (e : Event) (s : ℕ) (p : Parked) → ends_parked c s p e h ≡ false → live h s ≡ true → live_after s e (hellos h) (live h s) ≡ true
stays_live c h (Hello found) s p keeps now = or_true (eqb (hellos h) s) (live h s) now
stays_live c h (Do sid call) s p keeps now = now
stays_live c h (Hangup sid) s p keeps now = let other = another_hangup s p sid (queue c h p.object) keeps in rw (other, now) refl
stays_live c h (Tick moment) s p keeps now = now

pub if_of_is : (s d : ℕ) (h : History) (x : Held) → holds h s d ≡ Some x → if_of s x ≡ Some x
unfolding holds
if_of_is s d h x e = let now : held h d ≡ Some x = holds_is_held h s d x e in rw now at e

pub session_is : (s : ℕ) (x : Held) → if_of s x ≡ Some x → x.session.0 ≡ s
session_is s x e = at (eqb x.session.0 s) refl e where
  at : (b : Bool) → eqb x.session.0 s ≡ b → cond b (Some x) None ≡ Some x → x.session.0 ≡ s
  at true q k = eqb-true _ _ q
  at false q k = absurd cc

kept_one : (p : Held → Bool) (x : Held) → p x ≡ false → unless p (Some x) ≡ Some x
kept_one p x e = rw e refl

-- what is held is held on, unless the event ends it
held_on : (h : History) (d : ℕ) (x : Held) (e : Event) → held h d ≡ Some x → ends_held d x e ≡ false → held_after d e (opens h) (bound h) (creations h) (held h d) ≡ Some x
held_on h d x (Do sid (MqOpen asked)) now keeps =
    let below : d < opens h = held_below h d (ap is_some now) in
    let other : eqb (opens h) d ≡ false = ne_eqb _ _ (λ (q : opens h ≡ d). absurd (omega arith)) in
    rw (other, now) refl
held_on h d x (Do sid (SemOpen asked)) now keeps =
    let below : d < opens h = held_below h d (ap is_some now) in
    let other : eqb (opens h) d ≡ false = ne_eqb _ _ (λ (q : opens h ≡ d). absurd (omega arith)) in
    rw (other, now) refl
held_on h d x (Do sid (MqGive desc taker)) now keeps = rw (now, keeps) refl
held_on h d x (Do sid call) now keeps = ap (unless (λ y. ends_held d y (Do sid call))) now ∙ kept_one (λ y. ends_held d y (Do sid call)) x keeps
held_on h d x (Hello found) now keeps = ap (unless (λ y. ends_held d y (Hello found))) now ∙ kept_one (λ y. ends_held d y (Hello found)) x keeps
held_on h d x (Hangup sid) now keeps = ap (unless (λ y. ends_held d y (Hangup sid))) now ∙ kept_one (λ y. ends_held d y (Hangup sid)) x keeps
held_on h d x (Tick moment) now keeps = ap (unless (λ y. ends_held d y (Tick moment))) now ∙ kept_one (λ y. ends_held d y (Tick moment)) x keeps

pub holds_on : (h : History) (s d : ℕ) (x : Held) (e : Event) → holds h s d ≡ Some x → ends_held d x e ≡ false → holds (record { event = e; rule = None } ∷ h) s d ≡ Some x
unfolding holds
holds_on h s d x e now keeps = ap (option_and_then (if_of s)) (held_grows h e d ∙ held_on h d x e (holds_is_held h s d x now) keeps) ∙ if_of_is s d h x now

-- a parked session lets nothing go
pub none_let_go : (c : Config) (h : History) (e : Event) (s d : ℕ) (x : Held) (p : Parked) → None ≡ verdict c h e → parked c h s ≡ Some p → ends_parked c s p e h ≡ false → x.session.0 ≡ s → ends_held d x e ≡ false
none_let_go c h (Do sid (MqClose desc)) s d x p legal k keeps mine =
    let other : eqb sid.0 s ≡ false = another_call c h sid (MqClose desc) s legal refl (ap is_some k) in
    let other' : eqb sid.0 x.session.0 ≡ false = subst (λ (n : ℕ). eqb sid.0 n ≡ false) (sym mine) other in
    rw other' refl
none_let_go c h (Do sid (MqGive desc taker)) s d x p legal k keeps mine =
    let other : eqb sid.0 s ≡ false = another_call c h sid (MqGive desc taker) s legal refl (ap is_some k) in
    let other' : eqb sid.0 x.session.0 ≡ false = subst (λ (n : ℕ). eqb sid.0 n ≡ false) (sym mine) other in
    rw other' refl
none_let_go c h (Do sid (SemClose desc)) s d x p legal k keeps mine =
    let other : eqb sid.0 s ≡ false = another_call c h sid (SemClose desc) s legal refl (ap is_some k) in
    let other' : eqb sid.0 x.session.0 ≡ false = subst (λ (n : ℕ). eqb sid.0 n ≡ false) (sym mine) other in
    rw other' refl
none_let_go c h (Do sid call) s d x p legal k keeps mine = refl
none_let_go c h (Hello found) s d x p legal k keeps mine = refl
none_let_go c h (Hangup sid) s d x p legal k keeps mine = subst (λ (n : ℕ). eqb sid.0 n ≡ false) (sym mine) (another_hangup s p sid (queue c h p.object) keeps)
none_let_go c h (Tick moment) s d x p legal k keeps mine = refl

-- an object that is made stays
made_on : (c : Config) (h : History) (o : ℕ) (e : Event) (was : Option Object) → is_some was ≡ true → is_some (made_after o e (is_bound h) (creations h) (λ asked. option_map (made_by c asked) (cred c h asked.session.0)) was) ≡ true
made_on c h o (Do sid (MqOpen asked)) was there = at (is_new (queue_opening sid asked) (is_bound h) && eqb (creations h) o) where
  either : (a b : Option Object) → is_some b ≡ true → is_some (option_or a b) ≡ true
  either None b e = e
  either (Some x) b e = refl

  at : (b : Bool) → is_some (cond b (option_or (option_map (made_by c (queue_opening sid asked)) (cred c h sid.0)) was) was) ≡ true
  at true = either (option_map (made_by c (queue_opening sid asked)) (cred c h sid.0)) was there
  at false = there
made_on c h o (Do sid (SemOpen asked)) was there = at (is_new (semaphore_opening sid asked) (is_bound h) && eqb (creations h) o) where
  either : (a b : Option Object) → is_some b ≡ true → is_some (option_or a b) ≡ true
  either None b e = e
  either (Some x) b e = refl

  at : (b : Bool) → is_some (cond b (option_or (option_map (made_by c (semaphore_opening sid asked)) (cred c h sid.0)) was) was) ≡ true
  at true = either (option_map (made_by c (semaphore_opening sid asked)) (cred c h sid.0)) was there
  at false = there
made_on c h o (Do sid call) was there = there
made_on c h o (Hello found) was there = there
made_on c h o (Hangup sid) was there = there
made_on c h o (Tick moment) was there = there

made_stays : (c : Config) (h : History) (o : ℕ) (e : Event) → is_some (object c h o) ≡ true → is_some (object c (record { event = e; rule = None } ∷ h) o) ≡ true
made_stays c h o e there = subst (λ (x : Option Object). is_some x ≡ true) (sym now) (made_on c h o e (object c h o) there) where
  now : object c (record { event = e; rule = None } ∷ h) o ≡ made_after o e (is_bound h) (creations h) (λ asked. option_map (made_by c asked) (cred c h asked.session.0)) (object c h o)
  now = (grows c h e).object_of o

nothing_let_go : (sid : Sid) (call : Call) (d : ℕ) (x : Held) (c : Config) (h : History) (s : ℕ) (p : Parked) → parks c s (Do sid call) h ≡ Some p → ends_held d x (Do sid call) ≡ false
nothing_let_go sid (MqClose desc) d x c h s p k = absurd cc
nothing_let_go sid (MqGive desc taker) d x c h s p k = absurd cc
nothing_let_go sid (SemClose desc) d x c h s p k = absurd cc
nothing_let_go sid call d x c h s p k = refl

begins_parked : (c : Config) (h : History) (e : Event) (s : ℕ) (p : Parked) → None ≡ verdict c h e → parks c s e h ≡ Some p → IsParked c (record { event = e; rule = None } ∷ h) s p
begins_parked c h e s p legal k =
    let by = parks_by_call c h e s p k in
    let parks_now : parks c s (Do by.sid by.call) h ≡ Some p = subst (λ (d : Event). parks c s d h ≡ Some p) by.event k in
    let keeps : ends_held by.desc by.x e ≡ false = subst (λ (d : Event). ends_held by.desc by.x d ≡ false) (sym by.event) (nothing_let_go by.sid by.call by.desc by.x c h s p parks_now) in
    record {
      lives = live_grows h e s ∙ parks_live c h e s p legal k;
      holding = record { desc = by.desc; x = by.x; held = holds_on h s by.desc by.x e by.held keeps; object = by.gives };
      made = made_stays c h p.object e (by.made legal);
    }

goes_on : (c : Config) (h : History) (e : Event) (s : ℕ) (p : Parked) → None ≡ verdict c h e → parked c h s ≡ Some p → ends_parked c s p e h ≡ false → IsParked c h s p → IsParked c (record { event = e; rule = None } ∷ h) s p
goes_on c h e s p legal k keeps known =
    let hold = known.holding in
    let mine : hold.x.session.0 ≡ s = session_is s hold.x (if_of_is s hold.desc h hold.x hold.held) in
    record {
      lives = live_grows h e s ∙ stays_live c h e s p keeps known.lives;
      holding = record { desc = hold.desc; x = hold.x; held = holds_on h s hold.desc hold.x e hold.held (none_let_go c h e s hold.desc hold.x p legal k keeps mine); object = hold.object };
      made = made_stays c h p.object e known.made;
    }

parked_at : (c : Config) (h : History) → ((s : ℕ) (p : Parked) → parked c h s ≡ Some p → IsParked c h s p) → (e : Event) → None ≡ verdict c h e → (s : ℕ) (p : Parked) → (parks c s e h ≡ Some p) ⊎ ((parked c h s ≡ Some p) × (ends_parked c s p e h ≡ false)) → IsParked c (record { event = e; rule = None } ∷ h) s p
parked_at c h known e legal s p (inl k) = begins_parked c h e s p legal k
parked_at c h known e legal s p (inr k) = goes_on c h e s p legal k.0 k.1 (known s p k.0)

-- a refused record changes nothing of it
refused_on : (c : Config) (h : History) (e : Event) (rule : Rule) (s : ℕ) (p : Parked) → IsParked c h s p → IsParked c (record { event = e; rule = Some rule } ∷ h) s p
unfolding live held holds object
refused_on c h e rule s p known = record { lives = known.lives; holding = record { desc = known.holding.desc; x = known.holding.x; held = known.holding.held; object = known.holding.object }; made = known.made }

parked_next : (c : Config) (h : History) → ((s : ℕ) (p : Parked) → parked c h s ≡ Some p → IsParked c h s p) → (e : Event) (r : Option Rule) → r ≡ verdict c h e → (s : ℕ) (p : Parked) → parked c (record { event = e; rule = r } ∷ h) s ≡ Some p → IsParked c (record { event = e; rule = r } ∷ h) s p
unfolding parked
parked_next c h known e (Some rule) legal s p k = refused_on c h e rule s p (known s p k)
parked_next c h known e None legal s p k = parked_at c h known e legal s p (parked_cases c h e s p k)

-- in a legal history it holds of each parked session
pub is_parked : (c : Config) (h : History) → Legal c h → (s : ℕ) (p : Parked) → parked c h s ≡ Some p → IsParked c h s p
unfolding parked
is_parked c [] legal s p k = absurd cc
is_parked c (r ∷ h) legal s p k = parked_next c h (is_parked c h legal.1) r.event r.rule legal.0 s p k

-- an object on which a session is parked is alive
pub parked_alive : (c : Config) (h : History) → Legal c h → (s : ℕ) (p : Parked) → parked c h s ≡ Some p → alive h p.object ≡ true
unfolding alive
parked_alive c h legal s p k =
    let hold = (is_parked c h legal s p k).holding in
    let now : held h hold.desc ≡ Some hold.x = holds_is_held h s hold.desc hold.x hold.held in
    let gives : gives_object p.object (held h hold.desc) ≡ true = rw now (eq-eqb _ _ hold.object) in
    or_true (is_some (named h p.object)) (any_below (λ d. gives_object p.object (held h d)) (opens h)) (any_below_at (λ d. gives_object p.object (held h d)) (opens h) hold.desc (held_below h hold.desc (ap is_some now)) gives)

-- so on an object that is not alive no call is parked
pub dead_has_no_senders : (c : Config) (h : History) → Legal c h → (o : ℕ) → alive h o ≡ false → senders c h o ≡ []
dead_has_no_senders c h legal o dead = at (senders c h o) ((calls_listed c h legal).each_send o) where
  at : (ms : List Send) → Each (λ m. parked c h m.session ≡ Some (record { object = o; place = m.place; kind = Sending })) ms → ms ≡ []
  at [] all = refl
  at (m ∷ ms) all = absurd (let lives = parked_alive c h legal m.session (record { object = o; place = m.place; kind = Sending }) all.0 in let wrong : true ≡ false = sym lives ∙ dead in cc)

pub dead_has_no_receivers : (c : Config) (h : History) → Legal c h → (o : ℕ) → alive h o ≡ false → receivers c h o ≡ []
dead_has_no_receivers c h legal o dead = at (receivers c h o) ((calls_listed c h legal).each_receive o) where
  at : (ws : List Waiter) → Each (λ w. parked c h w.session ≡ Some (record { object = o; place = w.place; kind = Receiving })) ws → ws ≡ []
  at [] all = refl
  at (w ∷ ws) all = absurd (let lives = parked_alive c h legal w.session (record { object = o; place = w.place; kind = Receiving }) all.0 in let wrong : true ≡ false = sym lives ∙ dead in cc)

pub dead_has_no_waiters : (c : Config) (h : History) → Legal c h → (o : ℕ) → alive h o ≡ false → waiters c h o ≡ []
dead_has_no_waiters c h legal o dead = at (waiters c h o) ((calls_listed c h legal).each_wait o) where
  at : (ws : List Waiter) → Each (λ w. parked c h w.session ≡ Some (record { object = o; place = w.place; kind = Waiting })) ws → ws ≡ []
  at [] all = refl
  at (w ∷ ws) all = absurd (let lives = parked_alive c h legal w.session (record { object = o; place = w.place; kind = Waiting }) all.0 in let wrong : true ≡ false = sym lives ∙ dead in cc)

-- no two items have the same number
abbrev pub Different : {A : Type 0} → (A → ℕ) → List A → Type 0
Different number [] = Unit {0}
Different number (x ∷ xs) = Each (λ y. eqb (number y) (number x) ≡ false) xs × Different number xs

others_differ : {A : Type 0} (place session : A → ℕ) (f : ℕ → Option Parked) (call : A → Parked) → ((y : A) → (call y).place ≡ place y) → (x : A) → f (session x) ≡ Some (call x) → (lo : ℕ) (xs : List A) (hi : ℕ) → place x < lo → Rising place lo xs hi → Each (λ y. f (session y) ≡ Some (call y)) xs → Each (λ y. eqb (session y) (session x) ≡ false) xs
others_differ place session f call placed x here lo [] hi lt r all = tt
others_differ place session f call placed x here lo (y ∷ ys) hi lt r all = (
  ne_eqb _ _ (λ (e : session y ≡ session x).
      let both : Some (call y) ≡ Some (call x) = sym all.0 ∙ ap f e ∙ here in
      let same : call y ≡ call x = cc in
      let same' : place y ≡ place x = sym (placed y) ∙ ap (λ (p : Parked). p.place) same ∙ placed x in
      let least = r.0 in
      absurd (omega arith)),
  others_differ place session f call placed x here (place y + 1) ys hi (let least = r.0 in omega arith) r.1 all.1,
)

all_differ : {A : Type 0} (place session : A → ℕ) (f : ℕ → Option Parked) (call : A → Parked) → ((y : A) → (call y).place ≡ place y) → (lo : ℕ) (xs : List A) (hi : ℕ) → Rising place lo xs hi → Each (λ y. f (session y) ≡ Some (call y)) xs → Different session xs
all_differ place session f call placed lo [] hi r all = tt
all_differ place session f call placed lo (x ∷ xs) hi r all = (others_differ place session f call placed x all.0 (place x + 1) xs hi (omega arith) r.1 all.1, all_differ place session f call placed (place x + 1) xs hi r.1 all.1)

-- a session stands in a list once
pub senders_differ : (c : Config) (h : History) → Legal c h → (o : ℕ) → Different (λ m. m.session) (senders c h o)
senders_differ c h legal o = all_differ (λ (m : Send). m.place) (λ m. m.session) (parked c h) (λ m. record { object = o; place = m.place; kind = Sending }) (λ m. refl) 0 (senders c h o) (length h) (parked_by_place c h o).sends_rise ((calls_listed c h legal).each_send o)

pub receivers_differ : (c : Config) (h : History) → Legal c h → (o : ℕ) → Different (λ w. w.session) (receivers c h o)
receivers_differ c h legal o = all_differ (λ (w : Waiter). w.place) (λ w. w.session) (parked c h) (λ w. record { object = o; place = w.place; kind = Receiving }) (λ w. refl) 0 (receivers c h o) (length h) (parked_by_place c h o).receives_rise ((calls_listed c h legal).each_receive o)

pub waiters_differ : (c : Config) (h : History) → Legal c h → (o : ℕ) → Different (λ w. w.session) (waiters c h o)
waiters_differ c h legal o = all_differ (λ (w : Waiter). w.place) (λ w. w.session) (parked c h) (λ w. record { object = o; place = w.place; kind = Waiting }) (λ w. refl) 0 (waiters c h o) (length h) (parked_by_place c h o).waits_rise ((calls_listed c h legal).each_wait o)

-- and only in the lists of the object on which it is parked
filter_others : {A : Type 0} (session : A → ℕ) (s : ℕ) (xs : List A) → Each (λ x. eqb (session x) s ≡ false) xs → filter (λ x. not (eqb (session x) s)) xs ≡ xs
filter_others session s [] all = refl
filter_others session s (x ∷ xs) all = let other = all.0 in rw other (ap (λ l. x ∷ l) (filter_others session s xs all.1))

not_on : (f : ℕ → Option Parked) (s t o : ℕ) (p : Parked) → f t ≡ Some p → p.object ≡ o → is_some_and (λ x. eqb x.object o) (f s) ≡ false → eqb t s ≡ false
not_on f s t o p here on away = ne_eqb _ _ (λ (e : t ≡ s).
    let now : f s ≡ Some p = ap f (sym e) ∙ here in
    let away' : eqb p.object o ≡ false = rw now at away in
    eqb-false _ _ away' on)

-- so a withdrawal changes no other object
pub withdrawn_elsewhere : (c : Config) (h : History) → Legal c h → (n s o : ℕ) → is_some_and (λ x. eqb x.object o) (parked c h s) ≡ false → queue_after n (Withdraws s) (queue c h o) ≡ queue c h o
withdrawn_elsewhere c h legal n s o away =
    let known = calls_listed c h legal in
    let sending : filter (λ m. not (eqb m.session s)) (senders c h o) ≡ senders c h o =
    filter_others (λ (m : Send). m.session) s (senders c h o) (each_map (λ (m : Send). parked c h m.session ≡ Some (record { object = o; place = m.place; kind = Sending })) (λ m. eqb m.session s ≡ false) (senders c h o) (λ m k. not_on (parked c h) s m.session o (record { object = o; place = m.place; kind = Sending }) k refl away) (known.each_send o)) in
    let receiving : filter (λ w. not (eqb w.session s)) (receivers c h o) ≡ receivers c h o =
    filter_others (λ (w : Waiter). w.session) s (receivers c h o) (each_map (λ (w : Waiter). parked c h w.session ≡ Some (record { object = o; place = w.place; kind = Receiving })) (λ w. eqb w.session s ≡ false) (receivers c h o) (λ w k. not_on (parked c h) s w.session o (record { object = o; place = w.place; kind = Receiving }) k refl away) (known.each_receive o)) in
    ap (λ ms. record { contents = (queue c h o).contents; senders = ms; receivers = filter (λ (w : Waiter). not (eqb w.session s)) (receivers c h o) }) sending
    ∙ ap (λ ws. record { contents = (queue c h o).contents; senders = senders c h o; receivers = ws }) receiving

pub cancelled_elsewhere : (c : Config) (h : History) → Legal c h → (s o : ℕ) → is_some_and (λ x. eqb x.object o) (parked c h s) ≡ false → semaphore_after (WithdrawsWait s) (semaphore c h o) ≡ semaphore c h o
cancelled_elsewhere c h legal s o away =
    let known = calls_listed c h legal in
    let waiting : filter (λ w. not (eqb w.session s)) (waiters c h o) ≡ waiters c h o =
    filter_others (λ (w : Waiter). w.session) s (waiters c h o) (each_map (λ (w : Waiter). parked c h w.session ≡ Some (record { object = o; place = w.place; kind = Waiting })) (λ w. eqb w.session s ≡ false) (waiters c h o) (λ w k. not_on (parked c h) s w.session o (record { object = o; place = w.place; kind = Waiting }) k refl away) (known.each_wait o)) in
    ap (λ ws. record { running = (semaphore c h o).running; waiters = ws }) waiting
