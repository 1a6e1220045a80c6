-- On which object a session is parked after an accepted event.
use Rattle.std.proofs.Common.{◌≡◌, ℕ, Bool, true, false, ◌&&◌, eqb, cond, List, length, Option, Some, None, refl, ap, ◌∙◌}
use Rattle.std.specs.Option.{option_map}
use Rattle.ipc_terms.specs.Lists.{first}
use Rattle.ipc_terms.specs.declared.ids.Sid.{Sid}
use Rattle.ipc_terms.specs.declared.ids.Desc.{Desc}
use Rattle.ipc_terms.specs.declared.call.Call.TheVariants.{MqSend, MqReceive, SemPost, SemWait, Interrupt}
use Rattle.ipc_terms.specs.declared.record.Event.TheVariants.{Do, Hangup, Tick}
use Rattle.ipc_policy.specs.declared.config.Config.{Config}
use Rattle.ipc_policy.specs.declared.config.Held.{Held}
use Rattle.ipc_policy.specs.Decides.History.{History, after_accepted, is_some_and}
use Rattle.ipc_policy.specs.Decides.Descriptions.{holds}
use Rattle.ipc_policy.specs.Decides.Queues.{Send, Waiter}
use Rattle.ipc_policy.specs.Decides.Bodies.{senders, receivers, is_full, is_empty, waiters, is_zero, due}
use Rattle.ipc_policy.specs.Decides.Parking.{Sending, Receiving, Waiting, Parked, parked}
use Rattle.ipc_policy.specs.Decides.Verdict.{Legal}
use Rattle.ipc_policy.proofs.Blocked.ParkedSteps.{parked_by_send, parked_by_receive, parked_by_interrupt, parked_by_hangup}
use Rattle.ipc_policy.proofs.Blocked.WaitSteps.{parked_by_post, parked_by_wait}
use Rattle.ipc_policy.proofs.Blocked.TimedSteps.{parked_by_tick}
use Rattle.ipc_terms.proofs.Lists.{eqb_swapped}

-- on which object a session is parked
abbrev pub parked_object : Config → History → ℕ → Option ℕ
parked_object c h s = option_map (λ (p : Parked). p.object) (parked c h s)

-- a session that is served is parked no more, and one whose call parks is parked on the object
abbrev pub column_after : Option ℕ → Bool → ℕ → ℕ → (ℕ → Option ℕ) → ℕ → Option ℕ
column_after (Some i) parks sid o was s = cond (eqb i s) None (was s)
column_after None true sid o was s = cond (eqb sid s) (Some o) (was s)
column_after None false sid o was s = was s

none_of : (b : Bool) (w : Option Parked) → option_map (λ (p : Parked). p.object) (cond b None w) ≡ cond b None (option_map (λ (p : Parked). p.object) w)
none_of true w = refl
none_of false w = refl

column_is : (s sid o : ℕ) (served : Option ℕ) (b : Bool) (made : Parked) (was : ℕ → Option Parked) → made.object ≡ o → (b ≡ true → served ≡ None) → option_map (λ (p : Parked). p.object) (cond (eqb sid s && b) (Some made) (cond (is_some_and (λ i. eqb i s) served) None (was s))) ≡ column_after served b sid o (λ i. option_map (λ (p : Parked). p.object) (was i)) s
column_is s sid o (Some i) true made was m excl = absurd (let none = excl refl in cc)
column_is s sid o (Some i) false made was m excl = at (eqb sid s) where
  at : (d : Bool) → option_map (λ (p : Parked). p.object) (cond (d && false) (Some made) (cond (eqb i s) None (was s))) ≡ cond (eqb i s) None (option_map (λ (p : Parked). p.object) (was s))
  at true = none_of (eqb i s) (was s)
  at false = none_of (eqb i s) (was s)
column_is s sid o None true made was m excl = at (eqb sid s) where
  at : (d : Bool) → option_map (λ (p : Parked). p.object) (cond (d && true) (Some made) (was s)) ≡ cond d (Some o) (option_map (λ (p : Parked). p.object) (was s))
  at true = ap Some m
  at false = refl
column_is s sid o None false made was m excl = at (eqb sid s) where
  at : (d : Bool) → option_map (λ (p : Parked). p.object) (cond (d && false) (Some made) (was s)) ≡ option_map (λ (p : Parked). p.object) (was s)
  at true = refl
  at false = refl

pub there_mapped : {A : Type 0} (f : A → ℕ) (s : ℕ) (w : Option A) → is_some_and (λ x. eqb (f x) s) w ≡ is_some_and (λ i. eqb i s) (option_map f w)
there_mapped f s None = refl
there_mapped f s (Some x) = refl

pub column_by_send : (c : Config) (h : History) (sid : Sid) (desc : Desc) (priority : ℕ) (bytes : List ℕ) (x : Held) (s : ℕ) → Legal c h → holds h sid.0 desc.0 ≡ Some x → (is_full c h x.object ≡ true → option_map (λ (w : Waiter). w.session) (first (receivers c h x.object)) ≡ None) → parked_object c (after_accepted h (Do sid (MqSend desc priority bytes))) s ≡ column_after (option_map (λ (w : Waiter). w.session) (first (receivers c h x.object))) (is_full c h x.object) sid.0 x.object (parked_object c h) s
column_by_send c h sid desc priority bytes x s legal held excl =
    ap (option_map (λ (p : Parked). p.object)) (parked_by_send c h sid desc priority bytes x s legal held)
    ∙ ap (λ b. option_map (λ (p : Parked). p.object) (cond (eqb sid.0 s && is_full c h x.object) (Some (record { object = x.object; place = length h; kind = Sending })) (cond b None (parked c h s)))) (there_mapped (λ (w : Waiter). w.session) s (first (receivers c h x.object)))
    ∙ column_is s sid.0 x.object (option_map (λ (w : Waiter). w.session) (first (receivers c h x.object))) (is_full c h x.object) (record { object = x.object; place = length h; kind = Sending }) (parked c h) refl excl

pub column_by_receive : (c : Config) (h : History) (sid : Sid) (desc : Desc) (room : ℕ) (x : Held) (s : ℕ) → Legal c h → holds h sid.0 desc.0 ≡ Some x → (is_empty c h x.object ≡ true → option_map (λ (m : Send). m.session) (first (senders c h x.object)) ≡ None) → parked_object c (after_accepted h (Do sid (MqReceive desc room))) s ≡ column_after (option_map (λ (m : Send). m.session) (first (senders c h x.object))) (is_empty c h x.object) sid.0 x.object (parked_object c h) s
column_by_receive c h sid desc room x s legal held excl =
    ap (option_map (λ (p : Parked). p.object)) (parked_by_receive c h sid desc room x s legal held)
    ∙ ap (λ b. option_map (λ (p : Parked). p.object) (cond (eqb sid.0 s && is_empty c h x.object) (Some (record { object = x.object; place = length h; kind = Receiving })) (cond b None (parked c h s)))) (there_mapped (λ (m : Send). m.session) s (first (senders c h x.object)))
    ∙ column_is s sid.0 x.object (option_map (λ (m : Send). m.session) (first (senders c h x.object))) (is_empty c h x.object) (record { object = x.object; place = length h; kind = Receiving }) (parked c h) refl excl

pub column_by_post : (c : Config) (h : History) (sid : Sid) (desc : Desc) (x : Held) (s : ℕ) → Legal c h → holds h sid.0 desc.0 ≡ Some x → parked_object c (after_accepted h (Do sid (SemPost desc))) s ≡ column_after (option_map (λ (w : Waiter). w.session) (first (waiters c h x.object))) false sid.0 x.object (parked_object c h) s
column_by_post c h sid desc x s legal held =
    ap (option_map (λ (p : Parked). p.object)) (parked_by_post c h sid desc x s legal held)
    ∙ served (first (waiters c h x.object)) where
      served : (w : Option Waiter) → option_map (λ (p : Parked). p.object) (cond (is_some_and (λ (v : Waiter). eqb v.session s) w) None (parked c h s)) ≡ column_after (option_map (λ (v : Waiter). v.session) w) false sid.0 x.object (parked_object c h) s
      served None = refl
      served (Some w) = none_of (eqb w.session s) (parked c h s)

pub column_by_wait : (c : Config) (h : History) (sid : Sid) (desc : Desc) (x : Held) (s : ℕ) → holds h sid.0 desc.0 ≡ Some x → parked_object c (after_accepted h (Do sid (SemWait desc))) s ≡ column_after None (is_zero c h x.object) sid.0 x.object (parked_object c h) s
column_by_wait c h sid desc x s held =
    ap (option_map (λ (p : Parked). p.object)) (parked_by_wait c h sid desc x s held)
    ∙ column_is s sid.0 x.object None (is_zero c h x.object) (record { object = x.object; place = length h; kind = Waiting }) (parked c h) refl (λ e. refl)

pub column_by_interrupt : (c : Config) (h : History) (sid : Sid) (s : ℕ) → parked_object c (after_accepted h (Do sid Interrupt)) s ≡ cond (eqb sid.0 s) None (parked_object c h s)
column_by_interrupt c h sid s = ap (option_map (λ (p : Parked). p.object)) (parked_by_interrupt c h sid s) ∙ none_of (eqb s sid.0) (parked c h s) ∙ ap (λ b. cond b None (parked_object c h s)) (eqb_swapped s sid.0)

pub column_by_hangup : (c : Config) (h : History) (sid : Sid) (s : ℕ) → parked_object c (after_accepted h (Hangup sid)) s ≡ cond (eqb sid.0 s) None (parked_object c h s)
column_by_hangup c h sid s = ap (option_map (λ (p : Parked). p.object)) (parked_by_hangup c h sid s) ∙ none_of (eqb s sid.0) (parked c h s) ∙ ap (λ b. cond b None (parked_object c h s)) (eqb_swapped s sid.0)

pub column_by_tick : (c : Config) (h : History) (moment : ℕ) (sid : Sid) (s : ℕ) → due c h moment ≡ Some sid.0 → parked_object c (after_accepted h (Tick moment)) s ≡ cond (eqb sid.0 s) None (parked_object c h s)
column_by_tick c h moment sid s is =
    ap (option_map (λ (p : Parked). p.object)) (parked_by_tick c h moment s ∙ ap (λ w. cond (is_some_and (λ t. eqb s t) w) None (parked c h s)) is)
    ∙ none_of (eqb s sid.0) (parked c h s)
    ∙ ap (λ b. cond b None (parked_object c h s)) (eqb_swapped s sid.0)
