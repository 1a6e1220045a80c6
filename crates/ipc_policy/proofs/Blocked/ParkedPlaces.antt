-- Parked calls, place by place.
use Rattle.std.proofs.Common.{◌≡◌, ℕ, suc, ◌+◌, Bool, true, false, not, ◌&&◌, eqb, List, [], ◌∷◌, ◌++◌, length, cond, Option, Some, None, refl, sym, ap, subst, ◌∙◌, arith, add-one}
use Rattle.std.specs.Prelude.{filter}
use Rattle.std.specs.Option.{option_or}
use Rattle.std.proofs.lemmas.Bool.{eqb-true}
use Rattle.ipc_terms.specs.Timed.{plain}
use Rattle.ipc_terms.specs.declared.rule.Rule.{Rule}
use Rattle.ipc_terms.specs.declared.record.Event.{Event}
use Rattle.ipc_terms.specs.declared.record.Event.TheVariants.{Hello, Do, Hangup, Tick}
use Rattle.ipc_terms.specs.declared.call.Call.TheVariants.{MqSend, MqReceive, SemPost, SemWait, SemTryWait, Interrupt}
use Rattle.ipc_policy.specs.declared.config.Config.{Config}
use Rattle.ipc_policy.specs.Decides.History.{History, unless}
use Rattle.ipc_policy.specs.Decides.Descriptions.{holds}
use Rattle.ipc_policy.specs.Decides.Life.{gives_object}
use Rattle.ipc_policy.specs.Decides.Queues.{Send, Waiter, Act, Sends, Receives, Withdraws, NoAct, withdrawal, plain_act, Queue, is_filled, has_none, tail, senders_after, receivers_after, maxmsg}
use Rattle.ipc_policy.specs.Decides.Semaphores.{SemaphoreAct, Posts, Waits, Tries, WithdrawsWait, NoSemaphoreAct, wait_withdrawal, plain_semaphore_act, Semaphore, semaphore_after, waiters_after, with_first, gives_value}
use Rattle.ipc_policy.specs.Decides.Bodies.{due, act, queue, senders, receivers, semaphore_act, semaphore, waiters}
use Rattle.ipc_policy.specs.Follows.Readings.{of_place, Rising, parks_send, ends_send, parks_receive, ends_receive, parks_wait, ends_wait, ParkedByPlace, EachParkedByPlace}
use Rattle.ipc_policy.proofs.Holdings.Holding.{kept_all}
use Rattle.ipc_policy.proofs.Lists.PlaceLists.{rising_higher, rising_append, rising_behind, rising_filter, found_above, found_append, found_behind, found_filter}

-- what an act brings has this place
abbrev pub HasPlace : ℕ → Act → Type 0
HasPlace n (Sends m) = m.place ≡ n
HasPlace n (Receives w) = w.place ≡ n
HasPlace n _ = Unit {0}

pub cond_place : (n : ℕ) (b : Bool) (a : Act) → HasPlace n a → HasPlace n (cond b a NoAct)
cond_place n true a h = h
cond_place n false a h = tt

plain_place : (due : ℕ → Option ℕ) (o : ℕ) (e : Event) (h : History) → HasPlace (length h) (plain_act (length h) (holds h) due o e)
plain_place due o (Do sid (MqSend desc priority bytes)) h = cond_place (length h) (gives_object o (holds h sid.0 desc.0)) _ refl
plain_place due o (Do sid (MqReceive desc length')) h = cond_place (length h) (gives_object o (holds h sid.0 desc.0)) _ refl
plain_place due o (Do sid Interrupt) h = tt
plain_place due o (Do sid call) h = tt
plain_place due o (Hello found) h = tt
plain_place due o (Hangup sid) h = tt
plain_place due o (Tick moment) h = at (due moment) where
  at : (s : Option ℕ) → HasPlace (length h) (withdrawal s)
  at None = tt
  at (Some s) = tt

pub act_place : (c : Config) (o : ℕ) (e : Event) (h : History) → HasPlace (length h) (act c o e h)
act_place c o e h = plain_place (due c h) o (plain e) h

-- what a wait brings has this place
abbrev pub WaitHasPlace : ℕ → SemaphoreAct → Type 0
WaitHasPlace n (Waits w) = w.place ≡ n
WaitHasPlace n _ = Unit {0}

cond_wait_place : (n : ℕ) (b : Bool) (a : SemaphoreAct) → WaitHasPlace n a → WaitHasPlace n (cond b a NoSemaphoreAct)
cond_wait_place n true a h = h
cond_wait_place n false a h = tt

plain_wait_place : (due : ℕ → Option ℕ) (o : ℕ) (e : Event) (h : History) → WaitHasPlace (length h) (plain_semaphore_act (length h) (holds h) due o e)
plain_wait_place due o (Do sid (SemPost desc)) h = cond_wait_place (length h) (gives_object o (holds h sid.0 desc.0)) Posts tt
plain_wait_place due o (Do sid (SemWait desc)) h = cond_wait_place (length h) (gives_object o (holds h sid.0 desc.0)) _ refl
plain_wait_place due o (Do sid (SemTryWait desc)) h = cond_wait_place (length h) (gives_object o (holds h sid.0 desc.0)) Tries tt
plain_wait_place due o (Do sid Interrupt) h = tt
plain_wait_place due o (Do sid call) h = tt
plain_wait_place due o (Hello found) h = tt
plain_wait_place due o (Hangup sid) h = tt
plain_wait_place due o (Tick moment) h = at (due moment) where
  at : (s : Option ℕ) → WaitHasPlace (length h) (wait_withdrawal s)
  at None = tt
  at (Some s) = tt

pub wait_place : (c : Config) (o : ℕ) (e : Event) (h : History) → WaitHasPlace (length h) (semaphore_act c o e h)
wait_place c o e h = plain_wait_place (due c h) o (plain e) h

-- a first value changes no list
pub first_keeps : (v : Option ℕ) (q : Semaphore) → (with_first v q).waiters ≡ q.waiters
first_keeps None q = refl
first_keeps (Some n) q = refl

-- where nothing is found, what comes at the end is what is found
or_none : {A : Type 0} (o : Option A) (b d : Bool) (m : A) → (b ≡ true → d ≡ true → o ≡ None) → option_or o (cond (b && d) (Some m) None) ≡ option_or (cond (b && d) (Some m) None) o
or_none None true true m h = refl
or_none None true false m h = refl
or_none None false d m h = refl
or_none (Some x) true true m h = absurd (let e = h refl refl in cc)
or_none (Some x) true false m h = refl
or_none (Some x) false d m h = refl

added : {A : Type 0} (place : A → ℕ) (n i : ℕ) (xs : List A) (m : A) (b : Bool) → place m ≡ n → Rising place 0 xs n → of_place place i (cond b (xs ++ m ∷ []) xs) ≡ option_or (cond (b && eqb (place m) i) (Some m) None) (of_place place i xs)
added place n i xs m true e h = found_append place i xs m ∙ or_none (of_place place i xs) true (eqb (place m) i) m (λ k k'. found_above place 0 i xs n (let same : place m ≡ i = eqb-true _ _ k' in omega arith) h)
added place n i xs m false e h = refl

-- what is parked after one act
sends_step : (maxmsg n i : ℕ) (a : Act) (q : Queue) → HasPlace n a → Rising (λ (m : Send). m.place) 0 q.senders n → of_place (λ (m : Send). m.place) i (senders_after maxmsg a q) ≡ option_or (parks_send maxmsg i a q) (unless (λ m. ends_send m a q) (of_place (λ (m : Send). m.place) i q.senders))
sends_step maxmsg n i (Sends m) q p r = added (λ (m : Send). m.place) n i q.senders m (is_filled maxmsg q.contents) p r ∙ ap (option_or (cond (is_filled maxmsg q.contents && eqb m.place i) (Some m) None)) (sym (kept_all (of_place (λ (m : Send). m.place) i q.senders)))
sends_step maxmsg n i (Receives w) q p r = found_behind (λ (m : Send). m.place) 0 i q.senders n r
sends_step maxmsg n i (Withdraws s) q p r = found_filter (λ (m : Send). m.place) (λ m. eqb m.session s) 0 i q.senders n r
sends_step maxmsg n i NoAct q p r = sym (kept_all (of_place (λ (m : Send). m.place) i q.senders))

receives_step : (n i : ℕ) (a : Act) (q : Queue) → HasPlace n a → Rising (λ (w : Waiter). w.place) 0 q.receivers n → of_place (λ (w : Waiter). w.place) i (receivers_after a q) ≡ option_or (parks_receive i a q) (unless (λ w. ends_receive w a q) (of_place (λ (w : Waiter). w.place) i q.receivers))
receives_step n i (Receives w) q p r = added (λ (w : Waiter). w.place) n i q.receivers w (has_none q.contents) p r ∙ ap (option_or (cond (has_none q.contents && eqb w.place i) (Some w) None)) (sym (kept_all (of_place (λ (w : Waiter). w.place) i q.receivers)))
receives_step n i (Sends m) q p r = found_behind (λ (w : Waiter). w.place) 0 i q.receivers n r
receives_step n i (Withdraws s) q p r = found_filter (λ (w : Waiter). w.place) (λ w. eqb w.session s) 0 i q.receivers n r
receives_step n i NoAct q p r = sym (kept_all (of_place (λ (w : Waiter). w.place) i q.receivers))

waits_step : (n i : ℕ) (a : SemaphoreAct) (q : Semaphore) → WaitHasPlace n a → Rising (λ (w : Waiter). w.place) 0 q.waiters n → of_place (λ (w : Waiter). w.place) i (waiters_after a q) ≡ option_or (parks_wait i a q) (unless (λ w. ends_wait w a q) (of_place (λ (w : Waiter). w.place) i q.waiters))
waits_step n i (Waits w) q p r = added (λ (w : Waiter). w.place) n i q.waiters w (eqb q.running 0) p r ∙ ap (option_or (cond (eqb q.running 0 && eqb w.place i) (Some w) None)) (sym (kept_all (of_place (λ (w : Waiter). w.place) i q.waiters)))
waits_step n i Posts q p r = found_behind (λ (w : Waiter). w.place) 0 i q.waiters n r
waits_step n i (WithdrawsWait s) q p r = found_filter (λ (w : Waiter). w.place) (λ w. eqb w.session s) 0 i q.waiters n r
waits_step n i Tries q p r = sym (kept_all (of_place (λ (w : Waiter). w.place) i q.waiters))
waits_step n i NoSemaphoreAct q p r = sym (kept_all (of_place (λ (w : Waiter). w.place) i q.waiters))

-- the places rise
cond_rising : {A : Type 0} (place : A → ℕ) (n : ℕ) (xs : List A) (m : A) (b : Bool) → place m ≡ n → Rising place 0 xs n → Rising place 0 (cond b (xs ++ m ∷ []) xs) (n + 1)
cond_rising place n xs m true e h = rising_append place 0 xs n m e h
cond_rising place n xs m false e h = rising_higher place 0 xs n (n + 1) (omega arith) h

sends_rise : (maxmsg n : ℕ) (a : Act) (q : Queue) → HasPlace n a → Rising (λ (m : Send). m.place) 0 q.senders n → Rising (λ (m : Send). m.place) 0 (senders_after maxmsg a q) (n + 1)
sends_rise maxmsg n (Sends m) q p r = cond_rising (λ (m : Send). m.place) n q.senders m (is_filled maxmsg q.contents) p r
sends_rise maxmsg n (Receives w) q p r = rising_higher (λ (m : Send). m.place) 0 (tail q.senders) n (n + 1) (omega arith) (rising_behind (λ (m : Send). m.place) 0 q.senders n r)
sends_rise maxmsg n (Withdraws s) q p r = rising_higher (λ (m : Send). m.place) 0 (filter (λ m. not (eqb m.session s)) q.senders) n (n + 1) (omega arith) (rising_filter (λ (m : Send). m.place) (λ m. not (eqb m.session s)) 0 q.senders n r)
sends_rise maxmsg n NoAct q p r = rising_higher (λ (m : Send). m.place) 0 q.senders n (n + 1) (omega arith) r

receives_rise : (n : ℕ) (a : Act) (q : Queue) → HasPlace n a → Rising (λ (w : Waiter). w.place) 0 q.receivers n → Rising (λ (w : Waiter). w.place) 0 (receivers_after a q) (n + 1)
receives_rise n (Receives w) q p r = cond_rising (λ (w : Waiter). w.place) n q.receivers w (has_none q.contents) p r
receives_rise n (Sends m) q p r = rising_higher (λ (w : Waiter). w.place) 0 (tail q.receivers) n (n + 1) (omega arith) (rising_behind (λ (w : Waiter). w.place) 0 q.receivers n r)
receives_rise n (Withdraws s) q p r = rising_higher (λ (w : Waiter). w.place) 0 (filter (λ w. not (eqb w.session s)) q.receivers) n (n + 1) (omega arith) (rising_filter (λ (w : Waiter). w.place) (λ w. not (eqb w.session s)) 0 q.receivers n r)
receives_rise n NoAct q p r = rising_higher (λ (w : Waiter). w.place) 0 q.receivers n (n + 1) (omega arith) r

waits_rise : (n : ℕ) (a : SemaphoreAct) (q : Semaphore) → WaitHasPlace n a → Rising (λ (w : Waiter). w.place) 0 q.waiters n → Rising (λ (w : Waiter). w.place) 0 (waiters_after a q) (n + 1)
waits_rise n (Waits w) q p r = cond_rising (λ (w : Waiter). w.place) n q.waiters w (eqb q.running 0) p r
waits_rise n Posts q p r = rising_higher (λ (w : Waiter). w.place) 0 (tail q.waiters) n (n + 1) (omega arith) (rising_behind (λ (w : Waiter). w.place) 0 q.waiters n r)
waits_rise n (WithdrawsWait s) q p r = rising_higher (λ (w : Waiter). w.place) 0 (filter (λ w. not (eqb w.session s)) q.waiters) n (n + 1) (omega arith) (rising_filter (λ (w : Waiter). w.place) (λ w. not (eqb w.session s)) 0 q.waiters n r)
waits_rise n Tries q p r = rising_higher (λ (w : Waiter). w.place) 0 q.waiters n (n + 1) (omega arith) r
waits_rise n NoSemaphoreAct q p r = rising_higher (λ (w : Waiter). w.place) 0 q.waiters n (n + 1) (omega arith) r

parked_more : (c : Config) (h : History) (o : ℕ) → ParkedByPlace c h o → (e : Event) (r : Option Rule) → ParkedByPlace c (record { event = e; rule = r } ∷ h) o
unfolding queue semaphore
parked_more c h o known e (Some rule) = record {
  sends = known.sends;
  receives = known.receives;
  waits = known.waits;
  sends_rise = rising_higher (λ (m : Send). m.place) 0 (senders c h o) (length h) (suc (length h)) (omega arith) known.sends_rise;
  receives_rise = rising_higher (λ (w : Waiter). w.place) 0 (receivers c h o) (length h) (suc (length h)) (omega arith) known.receives_rise;
  waits_rise = rising_higher (λ (w : Waiter). w.place) 0 (waiters c h o) (length h) (suc (length h)) (omega arith) known.waits_rise;
}
parked_more c h o known e None = record {
  sends = λ i. sends_step (maxmsg c h o) (length h) i (act c o e h) (queue c h o) (act_place c o e h) known.sends_rise ∙ ap (λ x. option_or (parks_send (maxmsg c h o) i (act c o e h) (queue c h o)) (unless (λ m. ends_send m (act c o e h) (queue c h o)) x)) (known.sends i);
  receives = λ i. receives_step (length h) i (act c o e h) (queue c h o) (act_place c o e h) known.receives_rise ∙ ap (λ x. option_or (parks_receive i (act c o e h) (queue c h o)) (unless (λ w. ends_receive w (act c o e h) (queue c h o)) x)) (known.receives i);
  waits = λ i. ap (of_place (λ (w : Waiter). w.place) i) (first_keeps (gives_value o e h) (semaphore_after (semaphore_act c o e h) (semaphore c h o))) ∙ waits_step (length h) i (semaphore_act c o e h) (semaphore c h o) (wait_place c o e h) known.waits_rise ∙ ap (λ x. option_or (parks_wait i (semaphore_act c o e h) (semaphore c h o)) (unless (λ w. ends_wait w (semaphore_act c o e h) (semaphore c h o)) x)) (known.waits i);
  sends_rise = rw (← add-one) (sends_rise (maxmsg c h o) (length h) (act c o e h) (queue c h o) (act_place c o e h) known.sends_rise);
  receives_rise = rw (← add-one) (receives_rise (length h) (act c o e h) (queue c h o) (act_place c o e h) known.receives_rise);
  waits_rise = subst (λ (ws : List Waiter). Rising (λ (w : Waiter). w.place) 0 ws (suc (length h))) (sym (first_keeps (gives_value o e h) (semaphore_after (semaphore_act c o e h) (semaphore c h o)))) (rw (← add-one) (waits_rise (length h) (semaphore_act c o e h) (semaphore c h o) (wait_place c o e h) known.waits_rise));
}

pub parked_by_place : EachParkedByPlace
unfolding queue semaphore
parked_by_place c [] o = record { sends = λ i. refl; receives = λ i. refl; waits = λ i. refl; sends_rise = omega arith; receives_rise = omega arith; waits_rise = omega arith }
parked_by_place c (r ∷ h) o = parked_more c h o (parked_by_place c h o) r.event r.rule
