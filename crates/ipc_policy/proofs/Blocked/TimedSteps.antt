-- What a timed call leaves is what the same call without its deadline leaves; and what a tick leaves, in a legal history.
use Rattle.std.proofs.Common.{◌≡◌, ℕ, false, ◌||◌, eqb, cond, Option, Some, None, refl}
use Rattle.ipc_terms.specs.Timed.{plain}
use Rattle.ipc_terms.specs.declared.call.Call.TheVariants.{MqTimedSend, MqTimedReceive, SemTimedWait}
use Rattle.ipc_terms.specs.declared.record.Event.{Event}
use Rattle.ipc_terms.specs.declared.record.Event.TheVariants.{Hello, Do, Hangup, Tick}
use Rattle.ipc_policy.specs.declared.config.Config.{Config}
use Rattle.ipc_policy.specs.Decides.History.{History, after_accepted, is_some_and}
use Rattle.ipc_policy.specs.Decides.Queues.{Queue, withdrawal, queue_after, maxmsg}
use Rattle.ipc_policy.specs.Decides.Semaphores.{Semaphore, wait_withdrawal, semaphore_after}
use Rattle.ipc_policy.specs.Decides.Bodies.{due, queue, semaphore}
use Rattle.ipc_policy.specs.Decides.Registrations.{fires, registered}
use Rattle.ipc_policy.specs.Decides.Parking.{Parked, is_posted, ends_call, parked}
use Rattle.ipc_policy.proofs.Queues.Queueing.{semaphore_grows}
use Rattle.ipc_policy.proofs.Queues.RegisteredSteps.{registered_stays}
use Rattle.ipc_policy.proofs.Blocked.ParkedSteps.{kept_if, rests_end, withdrawal_ends}

pub queue_as_plain : (c : Config) (h : History) (e : Event) (o : ℕ) → queue c (after_accepted h e) o ≡ queue c (after_accepted h (plain e)) o
unfolding queue
queue_as_plain c h (Hello found) o = refl
queue_as_plain c h (Do sid (MqTimedSend desc priority until bytes)) o = refl
queue_as_plain c h (Do sid (MqTimedReceive desc size until)) o = refl
queue_as_plain c h (Do sid (SemTimedWait desc until)) o = refl
queue_as_plain c h (Do sid call) o = refl
queue_as_plain c h (Hangup sid) o = refl
queue_as_plain c h (Tick moment) o = refl

pub semaphore_as_plain : (c : Config) (h : History) (e : Event) (o : ℕ) → semaphore c (after_accepted h e) o ≡ semaphore c (after_accepted h (plain e)) o
unfolding queue
semaphore_as_plain c h (Hello found) o = refl
semaphore_as_plain c h (Do sid (MqTimedSend desc priority until bytes)) o = refl
semaphore_as_plain c h (Do sid (MqTimedReceive desc size until)) o = refl
semaphore_as_plain c h (Do sid (SemTimedWait desc until)) o = refl
semaphore_as_plain c h (Do sid call) o = refl
semaphore_as_plain c h (Hangup sid) o = refl
semaphore_as_plain c h (Tick moment) o = refl

pub parked_as_plain : (c : Config) (h : History) (e : Event) (s : ℕ) → parked c (after_accepted h e) s ≡ parked c (after_accepted h (plain e)) s
unfolding parked
parked_as_plain c h (Hello found) s = refl
parked_as_plain c h (Do sid (MqTimedSend desc priority until bytes)) s = refl
parked_as_plain c h (Do sid (MqTimedReceive desc size until)) s = refl
parked_as_plain c h (Do sid (SemTimedWait desc until)) s = refl
parked_as_plain c h (Do sid call) s = refl
parked_as_plain c h (Hangup sid) s = refl
parked_as_plain c h (Tick moment) s = refl

pub registered_as_plain : (c : Config) (h : History) (e : Event) (o : ℕ) → registered c (after_accepted h e) o ≡ registered c (after_accepted h (plain e)) o
unfolding registered
registered_as_plain c h (Hello found) o = refl
registered_as_plain c h (Do sid (MqTimedSend desc priority until bytes)) o = refl
registered_as_plain c h (Do sid (MqTimedReceive desc size until)) o = refl
registered_as_plain c h (Do sid (SemTimedWait desc until)) o = refl
registered_as_plain c h (Do sid call) o = refl
registered_as_plain c h (Hangup sid) o = refl
registered_as_plain c h (Tick moment) o = refl

-- a tick withdraws the call of the session that is due, where one is
pub queue_by_tick : (c : Config) (h : History) (moment o : ℕ) → queue c (after_accepted h (Tick moment)) o ≡ queue_after (maxmsg c h o) (withdrawal (due c h moment)) (queue c h o)
unfolding queue
queue_by_tick c h moment o = refl

pub semaphore_by_tick : (c : Config) (h : History) (moment o : ℕ) → semaphore c (after_accepted h (Tick moment)) o ≡ semaphore_after (wait_withdrawal (due c h moment)) (semaphore c h o)
semaphore_by_tick c h moment o = semaphore_grows c h (Tick moment) o

nobody_due : (s : ℕ) (p : Parked) (w : Option ℕ) (u : Semaphore) (q : Queue) → (is_posted (wait_withdrawal w) p.kind p.place u || ends_call s p (withdrawal w) q) ≡ is_some_and (λ t. eqb s t) w
nobody_due s p None u q = rests_end s p q
nobody_due s p (Some t) u q = withdrawal_ends s t p q

pub parked_by_tick : (c : Config) (h : History) (moment s : ℕ) → parked c (after_accepted h (Tick moment)) s ≡ cond (is_some_and (λ t. eqb s t) (due c h moment)) None (parked c h s)
unfolding parked
parked_by_tick c h moment s = kept_if (λ p. is_posted (wait_withdrawal (due c h moment)) p.kind p.place (semaphore c h p.object) || ends_call s p (withdrawal (due c h moment)) (queue c h p.object)) (parked c h s) (is_some_and (λ t. eqb s t) (due c h moment)) (λ p is. nobody_due s p (due c h moment) (semaphore c h p.object) (queue c h p.object))

withdrawal_fires : (w : Option ℕ) (q : Queue) → fires (withdrawal w) q ≡ false
withdrawal_fires None q = refl
withdrawal_fires (Some s) q = refl

pub registered_by_tick : (c : Config) (h : History) (moment o : ℕ) → registered c (after_accepted h (Tick moment)) o ≡ registered c h o
registered_by_tick c h moment o = registered_stays c h (Tick moment) o refl (λ x k. withdrawal_fires (due c h moment) (queue c h o))
