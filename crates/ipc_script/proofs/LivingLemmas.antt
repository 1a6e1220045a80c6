-- Whom an accepted event answers is live after it.
use Rattle.std.proofs.Common.{◌≡◌, ◌∙◌, ℕ, Bool, true, false, ◌&&◌, ◌||◌, eqb, List, [], ◌∷◌, cond, Option, Some, None, inl, inr, ◌⊎◌, refl, sym, ap, subst}
use Rattle.std.specs.Option.{option_or, option_map}
use Rattle.std.proofs.lemmas.Bool.{eq-eqb}
use Rattle.ipc_terms.specs.Lists.{Each, first}
use Rattle.ipc_terms.specs.declared.rule.Rule.{Rule}
use Rattle.ipc_terms.specs.declared.ids.Sid.{Sid}
use Rattle.ipc_terms.specs.declared.ids.Desc.{Desc}
use Rattle.ipc_terms.specs.declared.facts.Facts.{Facts}
use Rattle.ipc_terms.specs.declared.call.Answer.{Answer}
use Rattle.ipc_terms.specs.declared.call.Attributes.{Attributes}
use Rattle.ipc_terms.specs.declared.call.Call.{Call}
use Rattle.ipc_terms.specs.declared.call.Call.TheVariants.{MqOpen, MqSend, MqReceive, MqGetattr, MqSetattr, MqGive, SemOpen, SemPost, SemWait, SemGetvalue, StatName, Interrupt, MqTimedSend, MqTimedReceive, SemTimedWait}
use Rattle.ipc_terms.specs.declared.record.Event.{Event}
use Rattle.ipc_terms.specs.declared.record.Event.TheVariants.{Hello, Do, Hangup, Tick}
use Rattle.ipc_policy.specs.declared.config.Config.{Config}
use Rattle.ipc_policy.specs.declared.config.Held.{Held}
use Rattle.ipc_policy.specs.declared.config.Registration.{Registration}
use Rattle.ipc_policy.specs.Decides.History.{History, unless}
use Rattle.ipc_policy.specs.Decides.Sessions.{hellos, live}
use Rattle.ipc_policy.specs.Decides.Names.{Opening, queue_opening, semaphore_opening, bound, creations}
use Rattle.ipc_policy.specs.Decides.Descriptions.{ends_held, hands_over, held, held_as, holds, opens}
use Rattle.ipc_policy.specs.Decides.Queues.{Send, Waiter, attributes, next}
use Rattle.ipc_policy.specs.Decides.Bodies.{contents, due, is_full, is_zero, queue, receivers, senders, waiters}
use Rattle.ipc_policy.specs.Decides.Registrations.{is_idle, registered}
use Rattle.ipc_policy.specs.Decides.Parking.{ParkedKind, Parked, parked}
use Rattle.ipc_policy.specs.Follows.Grow.{held_after, live_after}
use Rattle.ipc_policy.specs.Decides.Verdict.{Legal, verdict, answers, answers_at, accepted_answers, after_event, answers_of, attributes_told, facts_meant, noticed, receive_answers, received, receiver_answers, send_answers, sender_answers, stat_answers, tick_answers, wait_answers, waiter_answers}
use Rattle.ipc_policy.proofs.Blocked.CallsListed.{calls_listed}
use Rattle.ipc_policy.proofs.Blocked.Earliest.{due_live}
use Rattle.ipc_policy.proofs.Blocked.ParkedSessions.{is_parked}
use Rattle.ipc_policy.proofs.Directories.Creating.{holds_is_held}
use Rattle.ipc_policy.proofs.Histories.Growing.{live_grows}
use Rattle.ipc_policy.proofs.Histories.Unforbidden.{caller_live, taker_there}
use Rattle.ipc_policy.proofs.Holdings.Holding.{held_grows}
use Rattle.ipc_policy.proofs.Lists.EachItem.{each_append, each_map}
use Rattle.ipc_policy.proofs.Queues.Registering.{registered_held}
use Rattle.ipc_policy.proofs.Blocked.ParkedSessions.{if_of_is, session_is}

-- each session that is told something is live
abbrev pub AreLive : History → List (Sid × Answer) → Type 0
AreLive h told = Each (λ p. live h p.0.0 ≡ true) told

-- ---- a description is held by a session that is live

-- what is left was there, and was not ended
left : (ends : Held → Bool) (w : Option Held) (x : Held) → unless ends w ≡ Some x → (w ≡ Some x) × (ends x ≡ false)
left ends None x k = absurd cc
left ends (Some y) x k = at (ends y) refl k where
  at : (b : Bool) → ends y ≡ b → cond b None (Some y) ≡ Some x → (Some y ≡ Some x) × (ends x ≡ false)
  at true e j = absurd cc
  at false e j = let same : y ≡ x = cc in (j, subst (λ z. ends z ≡ false) same e)

-- an open gives its own session a description, or leaves what was held
opened_or : (b : Bool) (asked : Opening) (o : Option ℕ) (w : Option Held) (x : Held) → option_or (cond b (option_map (held_as asked) o) None) w ≡ Some x
    → (asked.session.0 ≡ x.session.0) ⊎ (w ≡ Some x)
opened_or true asked (Some o) w x k = let same : held_as asked o ≡ x = cc in inl (ap (λ (y : Held). y.session.0) same)
opened_or true asked None w x k = inr k
opened_or false asked o w x k = inr k

-- and a give gives it to the taker
given_or : (sid taker : Sid) (desc : Desc) (d : ℕ) (w : Option Held) (x : Held)
    → option_or (hands_over d (Do sid (MqGive desc taker)) w) (unless (λ y. ends_held d y (Do sid (MqGive desc taker))) w) ≡ Some x
    → (taker.0 ≡ x.session.0) ⊎ (w ≡ Some x)
given_or sid taker desc d None x k = absurd cc
given_or sid taker desc d (Some y) x k = at (eqb sid.0 y.session.0 && eqb desc.0 d) refl k where
  at : (b : Bool) → (eqb sid.0 y.session.0 && eqb desc.0 d) ≡ b
      → option_or (cond b (Some (record y { session = taker })) None) (unless (λ z. ends_held d z (Do sid (MqGive desc taker))) (Some y)) ≡ Some x
      → (taker.0 ≡ x.session.0) ⊎ (Some y ≡ Some x)
  at true e j = let same : record y { session = taker } ≡ x = cc in inl (ap (λ (z : Held). z.session.0) same)
  at false e j = inr (left (λ z. ends_held d z (Do sid (MqGive desc taker))) (Some y) x j).0

or_true : (a b : Bool) → b ≡ true → (a || b) ≡ true
or_true true b e = refl
or_true false b e = e

-- so far each holder is live
abbrev HoldersLive : History → Type 0
HoldersLive h = (d : ℕ) (x : Held) → held h d ≡ Some x → live h x.session.0 ≡ true

by_either : (h : History) (s d : ℕ) (x : Held) → HoldersLive h → live h s ≡ true → (s ≡ x.session.0) ⊎ (held h d ≡ Some x) → live h x.session.0 ≡ true
by_either h s d x known lives (inl e) = subst (λ n. live h n ≡ true) e lives
by_either h s d x known lives (inr k) = known d x k

holder_after : (c : Config) (h : History) (e : Event) (d : ℕ) (x : Held) → HoldersLive h → verdict c h e ≡ None
    → held_after d e (opens h) (bound h) (creations h) (held h d) ≡ Some x → live_after x.session.0 e (hellos h) (live h x.session.0) ≡ true
holder_after c h (Do sid (MqOpen asked)) d x known accepted k =
    by_either h sid.0 d x known (caller_live c h sid (MqOpen asked) accepted) (opened_or (eqb (opens h) d) (queue_opening sid asked) _ (held h d) x k)
holder_after c h (Do sid (SemOpen asked)) d x known accepted k =
    by_either h sid.0 d x known (caller_live c h sid (SemOpen asked) accepted) (opened_or (eqb (opens h) d) (semaphore_opening sid asked) _ (held h d) x k)
holder_after c h (Do sid (MqGive desc taker)) d x known accepted k =
    by_either h taker.0 d x known (taker_there c h sid taker desc accepted).0 (given_or sid taker desc d (held h d) x k)
holder_after c h (Do sid call) d x known accepted k = known d x (left (λ y. ends_held d y (Do sid call)) (held h d) x k).0
holder_after c h (Hello found) d x known accepted k =
    or_true (eqb (hellos h) x.session.0) _ (known d x (left (λ y. ends_held d y (Hello found)) (held h d) x k).0)
holder_after c h (Hangup sid) d x known accepted k =
    let was = left (λ y. ends_held d y (Hangup sid)) (held h d) x k in
    let lives = known d x was.0 in
    rw (was.1, lives) refl
holder_after c h (Tick moment) d x known accepted k = known d x (left (λ y. ends_held d y (Tick moment)) (held h d) x k).0

holder_next : (c : Config) (h : History) (e : Event) (r : Option Rule) → HoldersLive h → r ≡ verdict c h e → HoldersLive (record { event = e; rule = r } ∷ h)
unfolding held live
holder_next c h e (Some rule) known is d x k = known d x k
holder_next c h e None known is d x k = live_grows h e x.session.0 ∙ holder_after c h e d x known (sym is) (sym (held_grows h e d) ∙ k)

holder_live : (c : Config) (h : History) → Legal c h → HoldersLive h
unfolding held
holder_live c [] legal d x k = absurd cc
holder_live c (r ∷ h) legal d x k = holder_next c h r.event r.rule (holder_live c h legal.1) legal.0 d x k

held_by_live : (c : Config) (h : History) (s d : ℕ) (x : Held) → Legal c h → holds h s d ≡ Some x → live h s ≡ true
held_by_live c h s d x legal k =
    subst (λ n. live h n ≡ true) (session_is s x (if_of_is s d h x k)) (holder_live c h legal d x (holds_is_held h s d x k))

-- ---- whom an accepted call answers

parked_live : (c : Config) (h : History) (s : ℕ) (p : Parked) → Legal c h → parked c h s ≡ Some p → live h s ≡ true
parked_live c h s p legal k = (is_parked c h legal s p k).lives

receivers_live : (c : Config) (h : History) (o priority : ℕ) (bytes : List ℕ) → Legal c h → AreLive h (receiver_answers priority bytes (first (receivers c h o)))
receivers_live c h o priority bytes legal = at (receivers c h o) ((calls_listed c h legal).each_receive o) where
  at : (ws : List Waiter) → Each (λ w. parked c h w.session ≡ Some (record { object = o; place = w.place; kind = ParkedKind.Receiving })) ws
      → AreLive h (receiver_answers priority bytes (first ws))
  at [] all = tt
  at (w ∷ ws) all = (parked_live c h w.session _ legal all.0, tt)

senders_live : (c : Config) (h : History) (o : ℕ) → Legal c h → AreLive h (sender_answers (first (senders c h o)))
senders_live c h o legal = at (senders c h o) ((calls_listed c h legal).each_send o) where
  at : (ms : List Send) → Each (λ m. parked c h m.session ≡ Some (record { object = o; place = m.place; kind = ParkedKind.Sending })) ms
      → AreLive h (sender_answers (first ms))
  at [] all = tt
  at (m ∷ ms) all = (parked_live c h m.session _ legal all.0, tt)

waiters_live : (c : Config) (h : History) (o : ℕ) → Legal c h → AreLive h (waiter_answers (first (waiters c h o)))
waiters_live c h o legal = at (waiters c h o) ((calls_listed c h legal).each_wait o) where
  at : (ws : List Waiter) → Each (λ w. parked c h w.session ≡ Some (record { object = o; place = w.place; kind = ParkedKind.Waiting })) ws
      → AreLive h (waiter_answers (first ws))
  at [] all = tt
  at (w ∷ ws) all = (parked_live c h w.session _ legal all.0, tt)

noticed_live : (c : Config) (h : History) (o : ℕ) (b : Bool) → Legal c h → AreLive h (cond b (noticed (registered c h o)) [])
noticed_live c h o false legal = tt
noticed_live c h o true legal = at (registered c h o) refl where
  at : (w : Option Registration) → registered c h o ≡ w → AreLive h (noticed w)
  at None k = tt
  at (Some x) k = let known = registered_held c h o x k in (held_by_live c h x.session.0 x.desc.0 known.x' legal known.held, tt)

-- what is answered of an object, whichever it is
of_held : (h : History) (w : Option Held) (f : ℕ → List (Sid × Answer)) → ((o : ℕ) → AreLive h (f o)) → AreLive h (answers_of w f)
of_held h None f all = tt
of_held h (Some x) f all = all x.object

unless_live : (h : History) (b : Bool) (told : List (Sid × Answer)) → AreLive h told → AreLive h (cond b [] told)
unless_live h true told all = tt
unless_live h false told all = all

send_live : (c : Config) (h : History) (sid : Sid) (priority : ℕ) (bytes : List ℕ) (o : ℕ) → Legal c h → live h sid.0 ≡ true → AreLive h (send_answers c h sid priority bytes o)
send_live c h sid priority bytes o legal lives =
    unless_live h (is_full c h o) _ (
      lives,
      each_append (λ p. live h p.0.0 ≡ true) (receiver_answers priority bytes (first (receivers c h o))) _
          (receivers_live c h o priority bytes legal) (noticed_live c h o (is_idle (queue c h o)) legal),
    )

receive_live : (c : Config) (h : History) (sid : Sid) (o : ℕ) → Legal c h → live h sid.0 ≡ true → AreLive h (receive_answers c h sid o)
receive_live c h sid o legal lives = at (next (contents c h o)) where
  at : (m : Option Send) → AreLive h (received sid m (first (senders c h o)))
  at None = tt
  at (Some m) = (lives, senders_live c h o legal)

wait_live : (c : Config) (h : History) (sid : Sid) (o : ℕ) → live h sid.0 ≡ true → AreLive h (wait_answers c h sid o)
wait_live c h sid o lives = unless_live h (is_zero c h o) _ (lives, tt)

attributes_live : (c : Config) (h : History) (sid : Sid) (d : ℕ) → live h sid.0 ≡ true → AreLive h (attributes_told c h sid d)
attributes_live c h sid d lives = at (holds h sid.0 d) refl where
  told : (x : Held) (y : Option Attributes) → attributes c h x.object ≡ y → holds h sid.0 d ≡ Some x → AreLive h (attributes_told c h sid d)
  told x None e k = rw k (rw e tt)
  told x (Some y) e k = rw k (rw e (lives, tt))

  at : (w : Option Held) → holds h sid.0 d ≡ w → AreLive h (attributes_told c h sid d)
  at None k = rw k tt
  at (Some x) k = told x (attributes c h x.object) refl k

stat_live : (h : History) (sid : Sid) (w : Option Facts) → live h sid.0 ≡ true → AreLive h (stat_answers sid w)
stat_live h sid None lives = tt
stat_live h sid (Some found) lives = (lives, tt)

call_live : (c : Config) (h : History) (sid : Sid) (call : Call) → Legal c h → verdict c h (Do sid call) ≡ None → live h sid.0 ≡ true → AreLive h (accepted_answers c h (Do sid call))
call_live c h sid (MqSend desc priority bytes) legal accepted lives = of_held h (holds h sid.0 desc.0) _ (λ o. send_live c h sid priority bytes o legal lives)
call_live c h sid (MqTimedSend desc priority deadline bytes) legal accepted lives = of_held h (holds h sid.0 desc.0) _ (λ o. send_live c h sid priority bytes o legal lives)
call_live c h sid (MqReceive desc size) legal accepted lives = of_held h (holds h sid.0 desc.0) _ (λ o. receive_live c h sid o legal lives)
call_live c h sid (MqTimedReceive desc size deadline) legal accepted lives = of_held h (holds h sid.0 desc.0) _ (λ o. receive_live c h sid o legal lives)
call_live c h sid (MqGetattr desc) legal accepted lives = attributes_live c h sid desc.0 lives
call_live c h sid (MqSetattr desc nonblock) legal accepted lives = attributes_live c h sid desc.0 lives
call_live c h sid (MqGive desc taker) legal accepted lives = (lives, ((taker_there c h sid taker desc accepted).0, tt))
call_live c h sid (SemPost desc) legal accepted lives = of_held h (holds h sid.0 desc.0) _ (λ o. (lives, waiters_live c h o legal))
call_live c h sid (SemWait desc) legal accepted lives = of_held h (holds h sid.0 desc.0) _ (λ o. wait_live c h sid o lives)
call_live c h sid (SemTimedWait desc deadline) legal accepted lives = of_held h (holds h sid.0 desc.0) _ (λ o. wait_live c h sid o lives)
call_live c h sid (SemGetvalue desc) legal accepted lives = of_held h (holds h sid.0 desc.0) _ (λ o. (lives, tt))
call_live c h sid (StatName target) legal accepted lives = stat_live h sid (facts_meant c h target) lives
call_live c h sid Interrupt legal accepted lives = (lives, (lives, tt))
call_live c h sid call legal accepted lives = (lives, tt)

-- ---- whom an accepted event answers

tick_live : (c : Config) (h : History) (moment : ℕ) → Legal c h → AreLive h (tick_answers (due c h moment))
tick_live c h moment legal = at (due c h moment) refl where
  at : (w : Option ℕ) → due c h moment ≡ w → AreLive h (tick_answers w)
  at None k = tt
  at (Some s) k = (due_live c h moment s legal k, tt)

told_live : (c : Config) (h : History) (e : Event) → Legal c h → verdict c h e ≡ None → AreLive (record { event = e; rule = None } ∷ h) (accepted_answers c h e)
told_live c h (Hello found) legal accepted = (live_grows h (Hello found) (hellos h) ∙ begins (eqb (hellos h) (hellos h)) (live h (hellos h)) (eq-eqb _ _ refl), tt) where
  begins : (a b : Bool) → a ≡ true → (a || b) ≡ true
  begins true b e = refl
  begins false b e = absurd cc
told_live c h (Do sid call) legal accepted =
    each_map (λ p. live h p.0.0 ≡ true) (λ p. live (record { event = Do sid call; rule = None } ∷ h) p.0.0 ≡ true) _
    (λ p lives. live_grows h (Do sid call) p.0.0 ∙ lives) (call_live c h sid call legal accepted (caller_live c h sid call accepted))
told_live c h (Hangup sid) legal accepted = tt
told_live c h (Tick moment) legal accepted =
    each_map (λ p. live h p.0.0 ≡ true) (λ p. live (record { event = Tick moment; rule = None } ∷ h) p.0.0 ≡ true) _
    (λ p lives. live_grows h (Tick moment) p.0.0 ∙ lives) (tick_live c h moment legal)

pub by_verdict : (c : Config) (h : History) (e : Event) (r : Option Rule) → verdict c h e ≡ r → answers c h e ≡ answers_at r c h e
unfolding answers
by_verdict c h e r is = ap (λ v. answers_at v c h e) is

pub answered_live : (c : Config) (h : History) (e : Event) → Legal c h → verdict c h e ≡ None → AreLive (after_event c h e) (answers c h e)
answered_live c h e legal accepted =
    subst (λ told. AreLive (after_event c h e) told) (sym (by_verdict c h e None accepted))
    (subst (λ r. AreLive (record { event = e; rule = r } ∷ h) (accepted_answers c h e)) (sym accepted) (told_live c h e legal accepted))
