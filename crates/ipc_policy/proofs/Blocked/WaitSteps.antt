-- What each accepted event makes of the semaphores, and what posts, waits and trywaits make of the sessions' parked
-- calls, in a legal history.
use Rattle.std.proofs.Common.{◌≡◌, ℕ, List, Bool, true, false, ◌&&◌, ◌||◌, eqb, ◌∷◌, length, cond, Option, Some, None, refl, ap, ◌∙◌}
use Rattle.std.specs.Prelude.{option_and_then}
use Rattle.std.specs.Option.{option_or}
use Rattle.ipc_terms.specs.Lists.{first}
use Rattle.ipc_terms.specs.declared.ids.Sid.{Sid}
use Rattle.ipc_terms.specs.declared.ids.Desc.{Desc}
use Rattle.ipc_terms.specs.declared.call.Call.TheVariants.{MqSend, MqReceive, SemPost, SemWait, SemTryWait, Interrupt, MqTimedSend, MqTimedReceive, SemTimedWait}
use Rattle.ipc_terms.specs.declared.record.Event.{Event}
use Rattle.ipc_terms.specs.declared.record.Event.TheVariants.{Hello, Do, Hangup, Tick}
use Rattle.ipc_policy.specs.declared.config.Config.{Config}
use Rattle.ipc_policy.specs.declared.config.Held.{Held}
use Rattle.ipc_policy.specs.Decides.History.{History, unless, is_some_and}
use Rattle.ipc_policy.specs.Decides.Names.{is_bound, creations}
use Rattle.ipc_policy.specs.Decides.Descriptions.{holds}
use Rattle.ipc_policy.specs.Decides.Life.{gives_object}
use Rattle.ipc_policy.specs.Decides.Queues.{Waiter, NoAct, Queue}
use Rattle.ipc_policy.specs.Decides.Semaphores.{SemaphoreAct, Posts, Waits, Tries, WithdrawsWait, NoSemaphoreAct, Semaphore, semaphore_act_by, semaphore_after, with_first}
use Rattle.ipc_policy.specs.Decides.Bodies.{due, queue, semaphore, waiters, is_zero}
use Rattle.ipc_policy.specs.Decides.Parking.{ParkedKind, Sending, Receiving, Waiting, Parked, parked_on, is_posted, ends_call, parked}
use Rattle.ipc_policy.specs.Follows.Grow.{first_value}
use Rattle.ipc_policy.specs.Decides.Verdict.{Legal}
use Rattle.ipc_policy.proofs.Queues.Queueing.{semaphore_grows}
use Rattle.ipc_policy.proofs.Blocked.ParkedPlaces.{parked_by_place}
use Rattle.ipc_policy.proofs.Blocked.CallsListed.{calls_listed}
use Rattle.ipc_policy.proofs.Blocked.ParkedSteps.{moves, kept_same, kept_if, or_here, rests_end, longest_ends, listed_as}

-- an event that moves nothing does nothing to a semaphore but give it its first value
idles : (place : ℕ) (holds' : ℕ → ℕ → Option Held) (due' : ℕ → Option ℕ) (o : ℕ) (e : Event) → moves e ≡ false → semaphore_act_by place holds' due' o e ≡ NoSemaphoreAct
idles place holds' due' o (Do sid (MqSend desc priority bytes)) still = refl
idles place holds' due' o (Do sid (MqReceive desc length')) still = refl
idles place holds' due' o (Do sid (SemPost desc)) still = absurd cc
idles place holds' due' o (Do sid (SemWait desc)) still = absurd cc
idles place holds' due' o (Do sid (SemTryWait desc)) still = absurd cc
idles place holds' due' o (Do sid Interrupt) still = absurd cc
idles place holds' due' o (Do sid (MqTimedSend desc priority until bytes)) still = absurd cc
idles place holds' due' o (Do sid (MqTimedReceive desc size until)) still = absurd cc
idles place holds' due' o (Do sid (SemTimedWait desc until)) still = absurd cc
idles place holds' due' o (Do sid call) still = refl
idles place holds' due' o (Hello found) still = refl
idles place holds' due' o (Hangup sid) still = absurd cc
idles place holds' due' o (Tick moment) still = absurd cc

pub semaphore_by_others : (c : Config) (h : History) (e : Event) (o : ℕ) → moves e ≡ false → semaphore c (record { event = e; rule = None } ∷ h) o ≡ with_first (first_value o e (is_bound h) (creations h)) (semaphore c h o)
semaphore_by_others c h e o still = semaphore_grows c h e o ∙ ap (λ a. with_first (first_value o e (is_bound h) (creations h)) (semaphore_after a (semaphore c h o))) (idles (length h) (holds h) (due c h) o e still)

-- nor does a send or a receive
pub semaphore_by_send : (c : Config) (h : History) (sid : Sid) (desc : Desc) (priority : ℕ) (bytes : List ℕ) (o : ℕ) → semaphore c (record { event = Do sid (MqSend desc priority bytes); rule = None } ∷ h) o ≡ semaphore c h o
semaphore_by_send c h sid desc priority bytes o = semaphore_grows c h (Do sid (MqSend desc priority bytes)) o

pub semaphore_by_receive : (c : Config) (h : History) (sid : Sid) (desc : Desc) (length' : ℕ) (o : ℕ) → semaphore c (record { event = Do sid (MqReceive desc length'); rule = None } ∷ h) o ≡ semaphore c h o
semaphore_by_receive c h sid desc length' o = semaphore_grows c h (Do sid (MqReceive desc length')) o

-- a post, a wait and a trywait change the semaphore that their description gives, and no other, and no queue
acted : (a : SemaphoreAct) (q : Semaphore) (b : Bool) → semaphore_after (cond b a NoSemaphoreAct) q ≡ cond b (semaphore_after a q) q
acted a q true = refl
acted a q false = refl

pub semaphore_by_post : (c : Config) (h : History) (sid : Sid) (desc : Desc) (x : Held) (o : ℕ) → holds h sid.0 desc.0 ≡ Some x → semaphore c (record { event = Do sid (SemPost desc); rule = None } ∷ h) o ≡ cond (eqb x.object o) (semaphore_after Posts (semaphore c h o)) (semaphore c h o)
semaphore_by_post c h sid desc x o k =
    semaphore_grows c h (Do sid (SemPost desc)) o
    ∙ ap (λ y. semaphore_after (cond (gives_object o y) Posts NoSemaphoreAct) (semaphore c h o)) k
    ∙ acted Posts (semaphore c h o) (eqb x.object o)

pub semaphore_by_wait : (c : Config) (h : History) (sid : Sid) (desc : Desc) (x : Held) (o : ℕ) → holds h sid.0 desc.0 ≡ Some x → semaphore c (record { event = Do sid (SemWait desc); rule = None } ∷ h) o ≡ cond (eqb x.object o) (semaphore_after (Waits (record { place = length h; session = sid.0; desc = desc.0 })) (semaphore c h o)) (semaphore c h o)
semaphore_by_wait c h sid desc x o k =
    semaphore_grows c h (Do sid (SemWait desc)) o
    ∙ ap (λ y. semaphore_after (cond (gives_object o y) (Waits (record { place = length h; session = sid.0; desc = desc.0 })) NoSemaphoreAct) (semaphore c h o)) k
    ∙ acted (Waits (record { place = length h; session = sid.0; desc = desc.0 })) (semaphore c h o) (eqb x.object o)

pub semaphore_by_try : (c : Config) (h : History) (sid : Sid) (desc : Desc) (x : Held) (o : ℕ) → holds h sid.0 desc.0 ≡ Some x → semaphore c (record { event = Do sid (SemTryWait desc); rule = None } ∷ h) o ≡ cond (eqb x.object o) (semaphore_after Tries (semaphore c h o)) (semaphore c h o)
semaphore_by_try c h sid desc x o k =
    semaphore_grows c h (Do sid (SemTryWait desc)) o
    ∙ ap (λ y. semaphore_after (cond (gives_object o y) Tries NoSemaphoreAct) (semaphore c h o)) k
    ∙ acted Tries (semaphore c h o) (eqb x.object o)

pub queue_by_post : (c : Config) (h : History) (sid : Sid) (desc : Desc) (o : ℕ) → queue c (record { event = Do sid (SemPost desc); rule = None } ∷ h) o ≡ queue c h o
unfolding queue
queue_by_post c h sid desc o = refl

pub queue_by_wait : (c : Config) (h : History) (sid : Sid) (desc : Desc) (o : ℕ) → queue c (record { event = Do sid (SemWait desc); rule = None } ∷ h) o ≡ queue c h o
unfolding queue
queue_by_wait c h sid desc o = refl

pub queue_by_try : (c : Config) (h : History) (sid : Sid) (desc : Desc) (o : ℕ) → queue c (record { event = Do sid (SemTryWait desc); rule = None } ∷ h) o ≡ queue c h o
unfolding queue
queue_by_try c h sid desc o = refl

-- an interrupt and a hang-up cancel the waits of their session
pub semaphore_by_interrupt : (c : Config) (h : History) (sid : Sid) (o : ℕ) → semaphore c (record { event = Do sid Interrupt; rule = None } ∷ h) o ≡ semaphore_after (WithdrawsWait sid.0) (semaphore c h o)
semaphore_by_interrupt c h sid o = semaphore_grows c h (Do sid Interrupt) o

pub semaphore_by_hangup : (c : Config) (h : History) (sid : Sid) (o : ℕ) → semaphore c (record { event = Hangup sid; rule = None } ∷ h) o ≡ semaphore_after (WithdrawsWait sid.0) (semaphore c h o)
semaphore_by_hangup c h sid o = semaphore_grows c h (Hangup sid) o

-- what neither posts nor acts on a queue ends no parked call
not_posted : (b : Bool) (a : SemaphoreAct) → ((kind : ParkedKind) (i : ℕ) (u : Semaphore) → is_posted a kind i u ≡ false) → (s : ℕ) (p : Parked) (u : Semaphore) (q : Queue) → (is_posted (cond b a NoSemaphoreAct) p.kind p.place u || ends_call s p NoAct q) ≡ false
not_posted b a none s p u q = rw (rests_end s p q) (at b) where
  at : (d : Bool) → (is_posted (cond d a NoSemaphoreAct) p.kind p.place u || false) ≡ false
  at true = rw (none p.kind p.place u) refl
  at false = refl

-- a post ends the call of the session whose wait is the longest parked, and no other
or_rests : (b : Bool) (s : ℕ) (p : Parked) (q : Queue) → (b || ends_call s p NoAct q) ≡ b
or_rests b s p q = rw (rests_end s p q) (at b) where
  at : (d : Bool) → (d || false) ≡ d
  at true = refl
  at false = refl

post_ends : (c : Config) (h : History) (o s : ℕ) (p : Parked) → Legal c h → parked c h s ≡ Some p → is_posted (cond (eqb o p.object) Posts NoSemaphoreAct) p.kind p.place (semaphore c h p.object) ≡ is_some_and (λ w. eqb w.session s) (first (waiters c h o))
post_ends c h o s p legal k =
    longest_ends (λ (w : Waiter). w.place) (λ w. w.session) Waiting (waiters c h) (parked c h) (length h) o s p ends k
    (λ i. (parked_by_place c h i).waits_rise) (calls_listed c h legal).each_wait (listed_as c h s p Waiting legal k)
    (λ kind. refl) refl by_kind where
      ends : Bool → ParkedKind → Bool
      ends b kind = is_posted (cond b Posts NoSemaphoreAct) kind p.place (semaphore c h p.object)

      by_kind : (kind : ParkedKind) (P : ParkedKind → Type 0) → P Waiting → ((j : ParkedKind) → (Waiting ≡ j → ⊥) → ends true j ≡ false → P j) → P kind
      by_kind Sending P here other = other Sending (λ e. cc) refl
      by_kind Receiving P here other = other Receiving (λ e. cc) refl
      by_kind Waiting P here other = here

pub parked_by_post : (c : Config) (h : History) (sid : Sid) (desc : Desc) (x : Held) (s : ℕ) → Legal c h → holds h sid.0 desc.0 ≡ Some x → parked c (record { event = Do sid (SemPost desc); rule = None } ∷ h) s ≡ cond (is_some_and (λ w. eqb w.session s) (first (waiters c h x.object))) None (parked c h s)
unfolding parked
parked_by_post c h sid desc x s legal k =
    ap (λ y. unless (λ p. is_posted (cond (gives_object p.object y) Posts NoSemaphoreAct) p.kind p.place (semaphore c h p.object) || ends_call s p NoAct (queue c h p.object)) (parked c h s)) k
    ∙ kept_if (λ p. is_posted (cond (eqb x.object p.object) Posts NoSemaphoreAct) p.kind p.place (semaphore c h p.object) || ends_call s p NoAct (queue c h p.object)) (parked c h s) (is_some_and (λ w. eqb w.session s) (first (waiters c h x.object)))
    (λ p is. or_rests (is_posted (cond (eqb x.object p.object) Posts NoSemaphoreAct) p.kind p.place (semaphore c h p.object)) s p (queue c h p.object) ∙ post_ends c h x.object s p legal is)

-- a wait parks its session if the value is 0, and ends no call
pub parked_by_wait : (c : Config) (h : History) (sid : Sid) (desc : Desc) (x : Held) (s : ℕ) → holds h sid.0 desc.0 ≡ Some x → parked c (record { event = Do sid (SemWait desc); rule = None } ∷ h) s ≡ cond (eqb sid.0 s && is_zero c h x.object) (Some (record { object = x.object; place = length h; kind = Waiting })) (parked c h s)
unfolding parked
parked_by_wait c h sid desc x s k =
    ap (λ y. option_or (cond (eqb sid.0 s) (option_and_then (parked_on (is_zero c h) Waiting (length h)) y) None) (unless (λ p. is_posted (cond (gives_object p.object y) (Waits (record { place = length h; session = sid.0; desc = desc.0 })) NoSemaphoreAct) p.kind p.place (semaphore c h p.object) || ends_call s p NoAct (queue c h p.object)) (parked c h s))) k
    ∙ ap (option_or (cond (eqb sid.0 s) (cond (is_zero c h x.object) (Some (record { object = x.object; place = length h; kind = Waiting })) None) None))
    (kept_same (λ p. is_posted (cond (eqb x.object p.object) (Waits (record { place = length h; session = sid.0; desc = desc.0 })) NoSemaphoreAct) p.kind p.place (semaphore c h p.object) || ends_call s p NoAct (queue c h p.object)) (parked c h s)
    (λ p is. not_posted (eqb x.object p.object) (Waits (record { place = length h; session = sid.0; desc = desc.0 })) (λ kind i u. refl) s p (semaphore c h p.object) (queue c h p.object)))
    ∙ or_here (eqb sid.0 s) (is_zero c h x.object) (record { object = x.object; place = length h; kind = Waiting }) (parked c h s)

-- a trywait parks nobody
pub parked_by_try : (c : Config) (h : History) (sid : Sid) (desc : Desc) (s : ℕ) → parked c (record { event = Do sid (SemTryWait desc); rule = None } ∷ h) s ≡ parked c h s
unfolding parked
parked_by_try c h sid desc s =
    kept_same (λ p. is_posted (cond (gives_object p.object (holds h sid.0 desc.0)) Tries NoSemaphoreAct) p.kind p.place (semaphore c h p.object) || ends_call s p NoAct (queue c h p.object)) (parked c h s)
    (λ p is. not_posted (gives_object p.object (holds h sid.0 desc.0)) Tries (λ kind i u. refl) s p (semaphore c h p.object) (queue c h p.object))
