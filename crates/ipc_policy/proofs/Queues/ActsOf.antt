-- What a legal history rules out, and which events send to an object and receive from it.
use Rattle.std.proofs.Common.{◌≡◌, ℕ, Bool, true, false, not, eqb, length, cond, Option, Some, None, is_some, refl, sym, ap}
use Rattle.std.proofs.lemmas.Bool.{eqb-true}
use Rattle.ipc_terms.specs.Objects.{of_queue, as_queue, of_semaphore, as_semaphore, family_of}
use Rattle.ipc_terms.specs.Names.{same_family}
use Rattle.ipc_terms.specs.Timed.{plain_call, plain}
use Rattle.ipc_terms.specs.declared.rule.Rule.TheVariants.{BadDescr}
use Rattle.ipc_terms.specs.declared.ids.Sid.{Sid}
use Rattle.ipc_terms.specs.declared.ids.Desc.{Desc}
use Rattle.ipc_terms.specs.declared.ids.Family.TheVariants.{Mq, Sem}
use Rattle.ipc_terms.specs.declared.call.Call.{Call}
use Rattle.ipc_terms.specs.declared.call.Call.TheVariants.{MqSend, MqReceive}
use Rattle.ipc_terms.specs.declared.record.Event.{Event}
use Rattle.ipc_terms.specs.declared.record.Event.TheVariants.{Hello, Do, Hangup, Tick}
use Rattle.ipc_policy.specs.declared.config.Config.{Config}
use Rattle.ipc_policy.specs.declared.config.Held.{Held}
use Rattle.ipc_terms.specs.declared.object.Object.{Object}
use Rattle.ipc_terms.specs.declared.object.Kind.{Kind}
use Rattle.ipc_terms.specs.declared.object.Kind.TheVariants.{Queue, Semaphore}
use Rattle.ipc_policy.specs.Decides.History.{History, is_some_and}
use Rattle.ipc_policy.specs.Decides.Objects.{object}
use Rattle.ipc_policy.specs.Decides.Descriptions.{holds}
use Rattle.ipc_policy.specs.Decides.Life.{gives_object}
use Rattle.ipc_policy.specs.Decides.Queues.{Send, Waiter, Act, Sends, Receives, NoAct, withdrawal, plain_act, attributes}
use Rattle.ipc_policy.specs.Decides.Bodies.{due, act}
use Rattle.ipc_policy.specs.Decides.Rules.{forbids, bad_descr, not_held, is_of_family, described}
use Rattle.ipc_policy.specs.Decides.Verdict.{verdict}
use Rattle.ipc_policy.proofs.Histories.Unforbidden.{unforbidden, described_plain}
use Rattle.ipc_policy.proofs.Fates.Sent.{not_sends, withdrawal_not_sends}

-- an event that receives from object o
pub record ReceiveOf (o : ℕ) (e : Event) (h : History) (w : Waiter) : Type 0 where
  pub sid : Sid
  pub desc : Desc
  pub length' : ℕ
  pub x : Held
  pub event : e ≡ Do sid (MqReceive desc length')
  pub held : holds h sid.0 desc.0 ≡ Some x
  pub object : x.object ≡ o
  pub wait : w ≡ record { place = length h; session = sid.0; desc = desc.0 }

-- an event that sends to object o
pub record SendOf (o : ℕ) (e : Event) (h : History) (m : Send) : Type 0 where
  pub sid : Sid
  pub desc : Desc
  pub x : Held
  pub event : e ≡ Do sid (MqSend desc m.priority m.bytes)
  pub held : holds h sid.0 desc.0 ≡ Some x
  pub object : x.object ≡ o
  pub place : m.place ≡ length h
  pub session : m.session ≡ sid.0
  pub by : m.desc ≡ desc.0

not_receives : (b : Bool) (a : Act) (w : Waiter) → (a ≡ Receives w → ⊥) → cond b a NoAct ≡ Receives w → ⊥
not_receives true a w h e = h e
not_receives false a w h e = cc

-- a tick receives nothing
withdrawal_not_receives : (s : Option ℕ) (w : Waiter) → withdrawal s ≡ Receives w → ⊥
withdrawal_not_receives None w e = cc
withdrawal_not_receives (Some s) w e = cc

plain_receives : (due : ℕ → Option ℕ) (o : ℕ) (e : Event) (h : History) (w : Waiter) → plain_act (length h) (holds h) due o e ≡ Receives w → ReceiveOf o e h w
plain_receives due o (Do sid (MqReceive desc length')) h w k = at (holds h sid.0 desc.0) refl k where
  at : (y : Option Held) → holds h sid.0 desc.0 ≡ y → cond (gives_object o y) (Receives (record { place = length h; session = sid.0; desc = desc.0 })) NoAct ≡ Receives w → ReceiveOf o (Do sid (MqReceive desc length')) h w
  at None q j = absurd cc
  at (Some x) q j = same (eqb x.object o) refl j where
    same : (b : Bool) → eqb x.object o ≡ b → cond b (Receives (record { place = length h; session = sid.0; desc = desc.0 })) NoAct ≡ Receives w → ReceiveOf o (Do sid (MqReceive desc length')) h w
    same true p i = record { sid = sid; desc = desc; length' = length'; x = x; event = refl; held = q; object = eqb-true _ _ p; wait = cc }
    same false p i = absurd cc
plain_receives due o (Do sid (MqSend desc priority bytes)) h w k = absurd (not_receives (gives_object o (holds h sid.0 desc.0)) _ w (λ j. cc) k)
plain_receives due o (Do sid call) h w k = absurd cc
plain_receives due o (Hello found) h w k = absurd cc
plain_receives due o (Hangup sid) h w k = absurd cc
plain_receives due o (Tick moment) h w k = absurd (withdrawal_not_receives (due moment) w k)

pub act_receives : (c : Config) (o : ℕ) (e : Event) (h : History) (w : Waiter) → act c o e h ≡ Receives w → ReceiveOf o (plain e) h w
act_receives c o e h w k = plain_receives (due c h) o (plain e) h w k

plain_sends : (due : ℕ → Option ℕ) (o : ℕ) (e : Event) (h : History) (m : Send) → plain_act (length h) (holds h) due o e ≡ Sends m → SendOf o e h m
plain_sends due o (Do sid (MqSend desc priority bytes)) h m k = at (holds h sid.0 desc.0) refl k where
  at : (y : Option Held) → holds h sid.0 desc.0 ≡ y → cond (gives_object o y) (Sends (record { place = length h; session = sid.0; desc = desc.0; priority = priority; bytes = bytes })) NoAct ≡ Sends m → SendOf o (Do sid (MqSend desc priority bytes)) h m
  at None q j = absurd cc
  at (Some x) q j = same (eqb x.object o) refl j where
    same : (b : Bool) → eqb x.object o ≡ b → cond b (Sends (record { place = length h; session = sid.0; desc = desc.0; priority = priority; bytes = bytes })) NoAct ≡ Sends m → SendOf o (Do sid (MqSend desc priority bytes)) h m
    same true p i =
        let sent : record { place = length h; session = sid.0; desc = desc.0; priority = priority; bytes = bytes } ≡ m = cc in
        record { sid = sid; desc = desc; x = x; event = ap (λ (n : Send). Do sid (MqSend desc n.priority n.bytes)) sent; held = q; object = eqb-true _ _ p; place = sym (ap (λ (n : Send). n.place) sent); session = sym (ap (λ (n : Send). n.session) sent); by = sym (ap (λ (n : Send). n.desc) sent) }
    same false p i = absurd cc
plain_sends due o (Do sid (MqReceive desc length')) h m k = absurd (not_sends (gives_object o (holds h sid.0 desc.0)) _ m (λ j. cc) k)
plain_sends due o (Do sid call) h m k = absurd cc
plain_sends due o (Hello found) h m k = absurd cc
plain_sends due o (Hangup sid) h m k = absurd cc
plain_sends due o (Tick moment) h m k = absurd (withdrawal_not_sends (due moment) m k)

pub act_sends : (c : Config) (o : ℕ) (e : Event) (h : History) (m : Send) → act c o e h ≡ Sends m → SendOf o (plain e) h m
act_sends c o e h m k = plain_sends (due c h) o (plain e) h m k

-- what the description of an accepted call on a queue gives is a queue
pub queue_given : (x : Option Object) → not (is_of_family Mq x) ≡ false → is_some (as_queue x) ≡ true
queue_given None e = absurd cc
queue_given (Some x) e = at x.kind e where
  at : (k : Kind) → not (same_family (family_of k) Mq) ≡ false → is_some (of_queue k) ≡ true
  at (Queue given) e = refl
  at (Semaphore first_value) e = absurd cc

-- what the description of an accepted call on a semaphore gives is a semaphore
pub semaphore_given : (x : Option Object) → not (is_of_family Sem x) ≡ false → is_some (as_semaphore x) ≡ true
semaphore_given None e = absurd cc
semaphore_given (Some x) e = at x.kind e where
  at : (k : Kind) → not (same_family (family_of k) Sem) ≡ false → is_some (of_semaphore k) ≡ true
  at (Queue given) e = absurd cc
  at (Semaphore first_value) e = refl

pub held_queue : (c : Config) (h : History) (sid : Sid) (call : Call) (desc : Desc) (x : Held) → None ≡ verdict c h (Do sid call) → described call ≡ Some (record { family = Mq; desc = desc }) → holds h sid.0 desc.0 ≡ Some x → is_some (attributes c h x.object) ≡ true
unfolding forbids bad_descr
held_queue c h sid call desc x legal named held =
    let passes : is_some_and (λ d. not_held c h sid.0 d.family d.desc.0) (described (plain_call call)) ≡ false = unforbidden c h (Do sid call) (sym legal) BadDescr in
    let passes' : not_held c h sid.0 Mq desc.0 ≡ false = rw (described_plain call, named) at passes in
    queue_given (object c h x.object) (rw held at passes')

pub held_semaphore : (c : Config) (h : History) (sid : Sid) (call : Call) (desc : Desc) (x : Held) → None ≡ verdict c h (Do sid call) → described call ≡ Some (record { family = Sem; desc = desc }) → holds h sid.0 desc.0 ≡ Some x → is_some (as_semaphore (object c h x.object)) ≡ true
unfolding forbids bad_descr
held_semaphore c h sid call desc x legal named held =
    let passes : is_some_and (λ d. not_held c h sid.0 d.family d.desc.0) (described (plain_call call)) ≡ false = unforbidden c h (Do sid call) (sym legal) BadDescr in
    let passes' : not_held c h sid.0 Sem desc.0 ≡ false = rw (described_plain call, named) at passes in
    semaphore_given (object c h x.object) (rw held at passes')

-- and so an object
pub queue_is_object : (c : Config) (h : History) (o : ℕ) → is_some (attributes c h o) ≡ true → is_some (object c h o) ≡ true
queue_is_object c h o e = at (object c h o) e where
  at : (x : Option Object) → is_some (as_queue x) ≡ true → is_some x ≡ true
  at None e = e
  at (Some x) e = refl

pub semaphore_is_object : (c : Config) (h : History) (o : ℕ) → is_some (as_semaphore (object c h o)) ≡ true → is_some (object c h o) ≡ true
semaphore_is_object c h o e = at (object c h o) e where
  at : (x : Option Object) → is_some (as_semaphore x) ≡ true → is_some x ≡ true
  at None e = e
  at (Some x) e = refl
