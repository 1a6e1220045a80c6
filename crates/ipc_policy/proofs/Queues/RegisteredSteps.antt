-- What follows for a queue's registration: it is of a queue that is alive, its description is held by its session alone,
-- and what each event makes of it.
use Rattle.std.proofs.Common.{◌≡◌, ℕ, ◌<◌, ◌≤◌, Bool, true, false, ◌&&◌, ◌||◌, eqb, List, cond, Option, Some, None, is_some, refl, sym, ap, subst, ◌∙◌, arith}
use Rattle.std.specs.Option.{option_or}
use Rattle.std.proofs.lemmas.Bool.{eqb-true, eqb-false, eq-eqb, ne_eqb}
use Rattle.ipc_terms.specs.declared.ids.Sid.{Sid}
use Rattle.ipc_terms.specs.declared.ids.Desc.{Desc}
use Rattle.ipc_terms.specs.declared.call.Call.TheVariants.{MqClose, MqSend, MqNotify, MqGive}
use Rattle.ipc_terms.specs.declared.record.Event.{Event}
use Rattle.ipc_terms.specs.declared.record.Event.TheVariants.{Do, Hangup}
use Rattle.ipc_policy.specs.declared.config.Config.{Config}
use Rattle.ipc_policy.specs.declared.config.Held.{Held}
use Rattle.ipc_policy.specs.declared.config.Registration.{Registration}
use Rattle.ipc_policy.specs.Decides.History.{History, after_accepted, unless, any_below}
use Rattle.ipc_policy.specs.Decides.Names.{creations}
use Rattle.ipc_policy.specs.Decides.Descriptions.{opens, held, holds}
use Rattle.ipc_policy.specs.Decides.Life.{named, alive, gives_object}
use Rattle.ipc_policy.specs.Decides.Bodies.{act, queue}
use Rattle.ipc_policy.specs.Decides.Registrations.{registers, is_idle, ends_registration, registered}
use Rattle.ipc_policy.proofs.Lists.Gathering.{any_below_at}
use Rattle.ipc_policy.proofs.Holdings.Holding.{held_below}
use Rattle.ipc_policy.proofs.Directories.Creating.{held_created, holds_is_held}
use Rattle.ipc_policy.proofs.Blocked.ParkedSessions.{if_of_is, session_is}
use Rattle.ipc_policy.proofs.Queues.Queueing.{registered_grows}
use Rattle.ipc_policy.proofs.Queues.Registering.{IsHeldFor, registered_held}

-- an object that was not created has no registration
pub registered_created : (c : Config) (h : History) (o : ℕ) (x : Registration) → registered c h o ≡ Some x → o < creations h
registered_created c h o x k =
    let known = registered_held c h o x k in
    subst (λ (n : ℕ). n < creations h) known.object (held_created h x.desc.0 known.x' (holds_is_held h x.session.0 x.desc.0 known.x' known.held))

pub not_created_unregistered : (c : Config) (h : History) (o : ℕ) → creations h ≤ o → registered c h o ≡ None
not_created_unregistered c h o le = at (registered c h o) refl where
  at : (w : Option Registration) → registered c h o ≡ w → w ≡ None
  at None k = refl
  at (Some x) k = absurd (let lt = registered_created c h o x k in omega arith)

-- an object that has one is alive
or_second : (a b : Bool) → b ≡ true → (a || b) ≡ true
or_second true b e = refl
or_second false b e = e

pub registered_alive : (c : Config) (h : History) (o : ℕ) (x : Registration) → registered c h o ≡ Some x → alive h o ≡ true
unfolding alive
registered_alive c h o x k =
    let known = registered_held c h o x k in
    let now : held h x.desc.0 ≡ Some known.x' = holds_is_held h x.session.0 x.desc.0 known.x' known.held in
    let gives : gives_object o (held h x.desc.0) ≡ true = rw now (eq-eqb _ _ known.object) in
    or_second (is_some (named h o)) (any_below (λ d. gives_object o (held h d)) (opens h)) (any_below_at (λ d. gives_object o (held h d)) (opens h) x.desc.0 (held_below h x.desc.0 (ap is_some now)) gives)

pub dead_unregistered : (c : Config) (h : History) (o : ℕ) → alive h o ≡ false → registered c h o ≡ None
dead_unregistered c h o dead = at (registered c h o) refl where
  at : (w : Option Registration) → registered c h o ≡ w → w ≡ None
  at None k = refl
  at (Some x) k = absurd (let wrong : true ≡ false = sym (registered_alive c h o x k) ∙ dead in cc)

-- no other session holds its description
pub registered_holder : (c : Config) (h : History) (o s : ℕ) (x : Registration) (y : Held) → registered c h o ≡ Some x → holds h s x.desc.0 ≡ Some y → (x.session.0 ≡ s) × (y.object ≡ o)
registered_holder c h o s x y k held' = (sym mine ∙ ap (λ (z : Held). z.session.0) same ∙ yours, ap (λ (z : Held). z.object) (sym same) ∙ known.object) where
  known : IsHeldFor h o x
  known = registered_held c h o x k

  mine : known.x'.session.0 ≡ x.session.0
  mine = session_is x.session.0 known.x' (if_of_is x.session.0 x.desc.0 h known.x' known.held)

  yours : y.session.0 ≡ s
  yours = session_is s y (if_of_is s x.desc.0 h y held')

  both : Some known.x' ≡ Some y
  both = sym (holds_is_held h x.session.0 x.desc.0 known.x' known.held) ∙ holds_is_held h s x.desc.0 y held'

  same : known.x' ≡ y
  same = let b = both in cc

-- what is kept by one test is kept by another that says the same of it
kept_same : (p q : Registration → Bool) (w : Option Registration) → ((x : Registration) → w ≡ Some x → p x ≡ q x) → unless p w ≡ unless q w
kept_same p q None same = refl
kept_same p q (Some x) same = ap (λ b. cond b None (Some x)) (same x refl)

kept_all : (p : Registration → Bool) (w : Option Registration) → ((x : Registration) → w ≡ Some x → p x ≡ false) → unless p w ≡ w
kept_all p None none = refl
kept_all p (Some x) none = ap (λ b. cond b None (Some x)) (none x refl)

-- an event that begins none and does not end the one that there is
pub registered_stays : (c : Config) (h : History) (e : Event) (o : ℕ) → registers (holds h) o e ≡ None → ((x : Registration) → registered c h o ≡ Some x → ends_registration x e (act c o e h) (queue c h o) ≡ false) → registered c (after_accepted h e) o ≡ registered c h o
registered_stays c h e o none keeps =
    registered_grows c h e o
    ∙ ap (λ w. option_or w (unless (λ x. ends_registration x e (act c o e h) (queue c h o)) (registered c h o))) none
    ∙ kept_all (λ x. ends_registration x e (act c o e h) (queue c h o)) (registered c h o) keeps

-- an event that begins none and ends those that the test says
pub registered_kept : (c : Config) (h : History) (e : Event) (o : ℕ) (test : Registration → Bool) → registers (holds h) o e ≡ None → ((x : Registration) → registered c h o ≡ Some x → ends_registration x e (act c o e h) (queue c h o) ≡ test x) → registered c (after_accepted h e) o ≡ unless test (registered c h o)
registered_kept c h e o test none same =
    registered_grows c h e o
    ∙ ap (λ w. option_or w (unless (λ x. ends_registration x e (act c o e h) (queue c h o)) (registered c h o))) none
    ∙ kept_same (λ x. ends_registration x e (act c o e h) (queue c h o)) test (registered c h o) same

-- a description of the session's is that of a registration exactly if it has its number
by_number : (c : Config) (h : History) (o : ℕ) (sid : Sid) (desc : Desc) (y : Held) (x : Registration) → holds h sid.0 desc.0 ≡ Some y → registered c h o ≡ Some x → (eqb sid.0 x.session.0 && eqb desc.0 x.desc.0) ≡ eqb desc.0 x.desc.0
by_number c h o sid desc y x held' k = at (eqb desc.0 x.desc.0) refl where
  at : (b : Bool) → eqb desc.0 x.desc.0 ≡ b → (eqb sid.0 x.session.0 && b) ≡ b
  at true e =
      let same : desc.0 ≡ x.desc.0 = eqb-true _ _ e in
      let there : holds h sid.0 x.desc.0 ≡ Some y = subst (λ (n : ℕ). holds h sid.0 n ≡ Some y) same held' in
      let mine : sid.0 ≡ x.session.0 = sym (registered_holder c h o sid.0 x y k there).0 in
      rw (eq-eqb sid.0 x.session.0 mine) refl
  at false e = none (eqb sid.0 x.session.0) where
    none : (b : Bool) → (b && false) ≡ false
    none true = refl
    none false = refl

or_none : (b : Bool) → (b || false) ≡ b
or_none true = refl
or_none false = refl

-- a close of a description that is held ends the registration by it
pub registered_close : (c : Config) (h : History) (sid : Sid) (desc : Desc) (y : Held) (o : ℕ) → holds h sid.0 desc.0 ≡ Some y → registered c (after_accepted h (Do sid (MqClose desc))) o ≡ unless (λ x. eqb desc.0 x.desc.0) (registered c h o)
registered_close c h sid desc y o held' = registered_kept c h (Do sid (MqClose desc)) o (λ x. eqb desc.0 x.desc.0) refl (λ x k. or_none (eqb sid.0 x.session.0 && eqb desc.0 x.desc.0) ∙ by_number c h o sid desc y x held' k)

-- and so a give of it
pub registered_give : (c : Config) (h : History) (sid taker : Sid) (desc : Desc) (y : Held) (o : ℕ) → holds h sid.0 desc.0 ≡ Some y → registered c (after_accepted h (Do sid (MqGive desc taker))) o ≡ unless (λ x. eqb desc.0 x.desc.0) (registered c h o)
registered_give c h sid taker desc y o held' = registered_kept c h (Do sid (MqGive desc taker)) o (λ x. eqb desc.0 x.desc.0) refl (λ x k. or_none (eqb sid.0 x.session.0 && eqb desc.0 x.desc.0) ∙ by_number c h o sid desc y x held' k)

-- a hang-up ends those of its session
pub registered_hangup : (c : Config) (h : History) (sid : Sid) (o : ℕ) → registered c (after_accepted h (Hangup sid)) o ≡ unless (λ x. eqb sid.0 x.session.0) (registered c h o)
registered_hangup c h sid o = registered_kept c h (Hangup sid) o (λ x. eqb sid.0 x.session.0) refl (λ x k. or_none (eqb sid.0 x.session.0))

-- a notify off ends the registration by its description
pub registered_off : (c : Config) (h : History) (sid : Sid) (desc : Desc) (y : Held) (o : ℕ) → holds h sid.0 desc.0 ≡ Some y → registered c (after_accepted h (Do sid (MqNotify desc false))) o ≡ unless (λ x. eqb desc.0 x.desc.0) (registered c h o)
registered_off c h sid desc y o held' = registered_kept c h (Do sid (MqNotify desc false)) o (λ x. eqb desc.0 x.desc.0) refl (λ x k. or_none ((eqb sid.0 x.session.0 && eqb desc.0 x.desc.0) || false) ∙ or_none (eqb sid.0 x.session.0 && eqb desc.0 x.desc.0) ∙ by_number c h o sid desc y x held' k)

-- a notify on registers its description with the queue that it gives, and leaves the others
pub registered_on : (c : Config) (h : History) (sid : Sid) (desc : Desc) (y : Held) → holds h sid.0 desc.0 ≡ Some y → registered c (after_accepted h (Do sid (MqNotify desc true))) y.object ≡ Some (record { session = sid; desc = desc })
registered_on c h sid desc y held' = registered_grows c h (Do sid (MqNotify desc true)) y.object ∙ (let here : eqb y.object y.object ≡ true = eq-eqb y.object y.object refl in rw (held', here) refl)

pub registered_on_other : (c : Config) (h : History) (sid : Sid) (desc : Desc) (y : Held) (o : ℕ) → holds h sid.0 desc.0 ≡ Some y → eqb y.object o ≡ false → registered c (after_accepted h (Do sid (MqNotify desc true))) o ≡ registered c h o
registered_on_other c h sid desc y o held' other = registered_stays c h (Do sid (MqNotify desc true)) o (rw (held', other) refl) (λ x k. refl)

-- a send ends the registration of the queue where it fires, and leaves the others
none_idle : (b : Bool) (w : Option Registration) → unless (λ x. b) w ≡ cond b None w
none_idle true None = refl
none_idle true (Some x) = refl
none_idle false None = refl
none_idle false (Some x) = refl

pub registered_send : (c : Config) (h : History) (sid : Sid) (desc : Desc) (priority : ℕ) (bytes : List ℕ) (y : Held) → holds h sid.0 desc.0 ≡ Some y → registered c (after_accepted h (Do sid (MqSend desc priority bytes))) y.object ≡ cond (is_idle (queue c h y.object)) None (registered c h y.object)
registered_send c h sid desc priority bytes y held' =
    registered_kept c h (Do sid (MqSend desc priority bytes)) y.object (λ x. is_idle (queue c h y.object)) refl (λ x k. let here : eqb y.object y.object ≡ true = eq-eqb y.object y.object refl in rw (held', here) refl)
    ∙ none_idle (is_idle (queue c h y.object)) (registered c h y.object)

pub registered_send_other : (c : Config) (h : History) (sid : Sid) (desc : Desc) (priority : ℕ) (bytes : List ℕ) (y : Held) (o : ℕ) → holds h sid.0 desc.0 ≡ Some y → eqb y.object o ≡ false → registered c (after_accepted h (Do sid (MqSend desc priority bytes))) o ≡ registered c h o
registered_send_other c h sid desc priority bytes y o held' other = registered_stays c h (Do sid (MqSend desc priority bytes)) o refl (λ x k. rw (held', other) refl)

-- a description of another object is that of no registration
pub other_s_description : (c : Config) (h : History) (o : ℕ) (sid : Sid) (desc : Desc) (y : Held) (x : Registration) → holds h sid.0 desc.0 ≡ Some y → eqb y.object o ≡ false → registered c h o ≡ Some x → eqb desc.0 x.desc.0 ≡ false
other_s_description c h o sid desc y x held' other k = ne_eqb desc.0 x.desc.0 (λ (e : desc.0 ≡ x.desc.0). eqb-false _ _ other (registered_holder c h o sid.0 x y k (subst (λ (n : ℕ). holds h sid.0 n ≡ Some y) e held')).1)
