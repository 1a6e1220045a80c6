-- Which events post to a semaphore, wait for it and try it, and what ends a parked wait.
use Rattle.std.proofs.Common.{◌≡◌, ℕ, Bool, true, false, ◌||◌, eqb, length, cond, Option, Some, None, refl, subst}
use Rattle.std.proofs.lemmas.Bool.{eqb-true}
use Rattle.ipc_terms.specs.Timed.{plain}
use Rattle.ipc_terms.specs.declared.ids.Sid.{Sid}
use Rattle.ipc_terms.specs.declared.ids.Desc.{Desc}
use Rattle.ipc_terms.specs.declared.call.Call.{Call}
use Rattle.ipc_terms.specs.declared.call.Call.TheVariants.{MqSend, MqReceive, SemPost, SemWait, SemTryWait, Interrupt}
use Rattle.ipc_terms.specs.declared.record.Event.{Event}
use Rattle.ipc_terms.specs.declared.record.Event.TheVariants.{Hello, Do, Hangup, Tick}
use Rattle.ipc_policy.specs.declared.config.Config.{Config}
use Rattle.ipc_policy.specs.declared.config.Held.{Held}
use Rattle.ipc_policy.specs.Decides.History.{History}
use Rattle.ipc_policy.specs.Decides.Descriptions.{holds}
use Rattle.ipc_policy.specs.Decides.Life.{gives_object}
use Rattle.ipc_policy.specs.Decides.Queues.{Waiter, Act, Sends, Receives, NoAct, withdrawal, plain_act, Queue}
use Rattle.ipc_policy.specs.Decides.Semaphores.{SemaphoreAct, Posts, Waits, Tries, WithdrawsWait, NoSemaphoreAct, wait_withdrawal, plain_semaphore_act, Semaphore}
use Rattle.ipc_policy.specs.Decides.Bodies.{due, act, semaphore_act}
use Rattle.ipc_policy.specs.Decides.Parking.{Sending, Receiving, Waiting, withdraws, ends_call, is_posted}
use Rattle.ipc_policy.specs.Follows.Readings.{ends_wait}

pub or_left : (a b : Bool) → (a || b) ≡ false → a ≡ false
or_left true b e = absurd cc
or_left false b e = refl

pub or_right : (a b : Bool) → (a || b) ≡ false → b ≡ false
or_right true b e = absurd cc
or_right false b e = e

pub or_neither : (a b : Bool) → a ≡ false → b ≡ false → (a || b) ≡ false
or_neither true b e f = absurd cc
or_neither false b e f = f

-- a call of this form by a description that gives semaphore o
pub record CallOf (call : Desc → Call) (o : ℕ) (e : Event) (h : History) : Type 0 where
  pub sid : Sid
  pub desc : Desc
  pub x : Held
  pub event : e ≡ Do sid (call desc)
  pub held : holds h sid.0 desc.0 ≡ Some x
  pub object : x.object ≡ o

-- an event that waits for semaphore o
pub record WaitOf (o : ℕ) (e : Event) (h : History) (w : Waiter) : Type 0 where
  pub sid : Sid
  pub desc : Desc
  pub x : Held
  pub event : e ≡ Do sid (SemWait desc)
  pub held : holds h sid.0 desc.0 ≡ Some x
  pub object : x.object ≡ o
  pub wait : w ≡ record { place = length h; session = sid.0; desc = desc.0 }

-- what an event is that does this to semaphore o
abbrev pub Made : ℕ → Event → History → SemaphoreAct → Type 0
Made o e h Posts = CallOf SemPost o e h
Made o e h (Waits w) = WaitOf o e h w
Made o e h Tries = CallOf SemTryWait o e h
Made o e h _ = Unit {0}

-- it is what a call by a description that gives the object makes of it, or nothing
given : (o : ℕ) (P : SemaphoreAct → Type 0) (a : SemaphoreAct) (w : Option Held) → P NoSemaphoreAct → ((x : Held) → w ≡ Some x → x.object ≡ o → P a) → P (cond (gives_object o w) a NoSemaphoreAct)
given o P a None none made = none
given o P a (Some x) none made = at (eqb x.object o) refl where
  at : (b : Bool) → eqb x.object o ≡ b → P (cond b a NoSemaphoreAct)
  at true e = made x refl (eqb-true _ _ e)
  at false e = none

plain_made : (due : ℕ → Option ℕ) (o : ℕ) (e : Event) (h : History) → Made o e h (plain_semaphore_act (length h) (holds h) due o e)
plain_made due o (Do sid (SemPost desc)) h = given o (Made o (Do sid (SemPost desc)) h) Posts (holds h sid.0 desc.0) tt (λ x q e. record { sid = sid; desc = desc; x = x; event = refl; held = q; object = e })
plain_made due o (Do sid (SemWait desc)) h = given o (Made o (Do sid (SemWait desc)) h) (Waits (record { place = length h; session = sid.0; desc = desc.0 })) (holds h sid.0 desc.0) tt (λ x q e. record { sid = sid; desc = desc; x = x; event = refl; held = q; object = e; wait = refl })
plain_made due o (Do sid (SemTryWait desc)) h = given o (Made o (Do sid (SemTryWait desc)) h) Tries (holds h sid.0 desc.0) tt (λ x q e. record { sid = sid; desc = desc; x = x; event = refl; held = q; object = e })
plain_made due o (Do sid call) h = tt
plain_made due o (Hello found) h = tt
plain_made due o (Hangup sid) h = tt
plain_made due o (Tick moment) h = at (due moment) where
  at : (s : Option ℕ) → Made o (Tick moment) h (wait_withdrawal s)
  at None = tt
  at (Some s) = tt

pub act_made : (c : Config) (o : ℕ) (e : Event) (h : History) (a : SemaphoreAct) → semaphore_act c o e h ≡ a → Made o (plain e) h a
act_made c o e h a k = subst (Made o (plain e) h) k (plain_made (due c h) o (plain e) h)

-- an act that cancels the parked wait of session s
abbrev pub cancels : ℕ → SemaphoreAct → Bool
cancels s (WithdrawsWait t) = eqb s t
cancels s _ = false

-- what withdraws from queues withdraws from semaphores
plain_withdraws : (due : ℕ → Option ℕ) (o : ℕ) (e : Event) (h : History) (s : ℕ) → withdraws s (plain_act (length h) (holds h) due o e) ≡ cancels s (plain_semaphore_act (length h) (holds h) due o e)
plain_withdraws due o (Hello found) h s = refl
plain_withdraws due o (Do sid (MqSend desc priority bytes)) h s = at (gives_object o (holds h sid.0 desc.0)) where
  at : (b : Bool) → withdraws s (cond b (Sends (record { place = length h; session = sid.0; desc = desc.0; priority = priority; bytes = bytes })) NoAct) ≡ false
  at true = refl
  at false = refl
plain_withdraws due o (Do sid (MqReceive desc length')) h s = at (gives_object o (holds h sid.0 desc.0)) where
  at : (b : Bool) → withdraws s (cond b (Receives (record { place = length h; session = sid.0; desc = desc.0 })) NoAct) ≡ false
  at true = refl
  at false = refl
plain_withdraws due o (Do sid (SemPost desc)) h s = at (gives_object o (holds h sid.0 desc.0)) where
  at : (b : Bool) → false ≡ cancels s (cond b Posts NoSemaphoreAct)
  at true = refl
  at false = refl
plain_withdraws due o (Do sid (SemWait desc)) h s = at (gives_object o (holds h sid.0 desc.0)) where
  at : (b : Bool) → false ≡ cancels s (cond b (Waits (record { place = length h; session = sid.0; desc = desc.0 })) NoSemaphoreAct)
  at true = refl
  at false = refl
plain_withdraws due o (Do sid (SemTryWait desc)) h s = at (gives_object o (holds h sid.0 desc.0)) where
  at : (b : Bool) → false ≡ cancels s (cond b Tries NoSemaphoreAct)
  at true = refl
  at false = refl
plain_withdraws due o (Do sid Interrupt) h s = refl
plain_withdraws due o (Do sid call) h s = refl
plain_withdraws due o (Hangup sid) h s = refl
plain_withdraws due o (Tick moment) h s = at (due moment) where
  at : (w : Option ℕ) → withdraws s (withdrawal w) ≡ cancels s (wait_withdrawal w)
  at None = refl
  at (Some t) = refl

pub withdraws_alike : (c : Config) (o : ℕ) (e : Event) (h : History) (s : ℕ) → withdraws s (act c o e h) ≡ cancels s (semaphore_act c o e h)
withdraws_alike c o e h s = plain_withdraws (due c h) o (plain e) h s

-- a post ends no parked send and no parked receive
pub posts_no_send : (b : SemaphoreAct) (i : ℕ) (u : Semaphore) → is_posted b Sending i u ≡ false
posts_no_send Posts i u = refl
posts_no_send (Waits w) i u = refl
posts_no_send Tries i u = refl
posts_no_send (WithdrawsWait s) i u = refl
posts_no_send NoSemaphoreAct i u = refl

pub posts_no_receive : (b : SemaphoreAct) (i : ℕ) (u : Semaphore) → is_posted b Receiving i u ≡ false
posts_no_receive Posts i u = refl
posts_no_receive (Waits w) i u = refl
posts_no_receive Tries i u = refl
posts_no_receive (WithdrawsWait s) i u = refl
posts_no_receive NoSemaphoreAct i u = refl

-- a parked wait is ended by its session's withdrawal, and by a post
stays_waiting : (b d : Bool) → b ≡ d → d ≡ false → (b || false) ≡ false
stays_waiting true d e f = absurd cc
stays_waiting false d e f = refl

pub not_ended_wait : (o : ℕ) (w : Waiter) (b : SemaphoreAct) (u : Semaphore) (a : Act) (q : Queue) → withdraws w.session a ≡ cancels w.session b → ends_wait w b u ≡ false → (is_posted b Waiting w.place u || ends_call w.session (record { object = o; place = w.place; kind = Waiting }) a q) ≡ false
not_ended_wait o w Posts u a q alike e = or_neither _ _ e (stays_waiting _ _ alike refl)
not_ended_wait o w (Waits v) u a q alike e = stays_waiting _ _ alike refl
not_ended_wait o w Tries u a q alike e = stays_waiting _ _ alike refl
not_ended_wait o w (WithdrawsWait s) u a q alike e = stays_waiting _ _ alike e
not_ended_wait o w NoSemaphoreAct u a q alike e = stays_waiting _ _ alike refl
