-- The registration of a queue as it is kept: what is registered is a queue's, and the session holds the description.
use Rattle.std.proofs.Common.{◌≡◌, ℕ, ◌<◌, Bool, true, false, ◌&&◌, eqb, cond, [], ◌∷◌, find, Option, Some, None, is_some, refl, sym, ap, subst, ◌∙◌, arith}
use Rattle.std.specs.Prelude.{option_and_then}
use Rattle.std.specs.Option.{option_map, option_or}
use Rattle.std.proofs.lemmas.Bool.{eqb-true, ne_eqb}
use Rattle.ipc_terms.specs.declared.rule.Rule.{Rule}
use Rattle.ipc_terms.specs.declared.ids.Sid.{Sid}
use Rattle.ipc_terms.specs.declared.ids.Desc.{Desc}
use Rattle.ipc_terms.specs.declared.ids.Family.TheVariants.{Mq}
use Rattle.ipc_terms.specs.Objects.{as_queue}
use Rattle.ipc_terms.specs.declared.object.Object.{Object}
use Rattle.ipc_terms.specs.declared.call.Attributes.{Attributes}
use Rattle.ipc_terms.specs.declared.call.Call.TheVariants.{MqNotify}
use Rattle.ipc_terms.specs.declared.record.Event.{Event}
use Rattle.ipc_terms.specs.declared.record.Event.TheVariants.{Hello, Do, Hangup, Tick}
use Rattle.ipc_policy.specs.declared.config.Config.{Config}
use Rattle.ipc_policy.specs.declared.config.Held.{Held}
use Rattle.ipc_policy.specs.declared.config.Registration.{Registration}
use Rattle.ipc_policy.specs.Decides.History.{History, after_accepted, unless, is_some_and}
use Rattle.ipc_policy.specs.Decides.Names.{Opening, opening, is_bound, creations}
use Rattle.ipc_policy.specs.Decides.Objects.{object}
use Rattle.ipc_policy.specs.Decides.Descriptions.{held, holds, is_nonblock}
use Rattle.ipc_policy.specs.Decides.Life.{gives_object}
use Rattle.ipc_policy.specs.Decides.Queues.{attributes}
use Rattle.ipc_policy.specs.Decides.Bodies.{act, queue}
use Rattle.ipc_policy.specs.Decides.Registrations.{registers, ends_registration, registered}
use Rattle.ipc_policy.specs.Follows.Grow.{is_new}
use Rattle.ipc_policy.specs.Decides.Verdict.{verdict, Legal}
use Rattle.ipc_policy.proofs.Histories.Known.{object_below}
use Rattle.ipc_policy.proofs.Histories.Grown.{grows}
use Rattle.ipc_policy.proofs.Histories.Unforbidden.{unforbidden, call_free}
use Rattle.ipc_policy.specs.Decides.Rules.{forbids, notify_taken}
use Rattle.ipc_terms.specs.declared.rule.Rule.TheVariants.{NotifyTaken}
use Rattle.ipc_queue.specs.Tickets.{Tickets}
use Rattle.ipc_policy.proofs.Directories.Creating.{holds_is_held}
use Rattle.ipc_policy.proofs.Blocked.ParkedSessions.{if_of_is, session_is}
use Rattle.ipc_policy.proofs.Queues.Registering.{registered_held}
use Rattle.ipc_policy.proofs.Queues.RegisteredSteps.{registered_created}
use Rattle.ipc_policy.proofs.Queues.Queueing.{registered_grows}
use Rattle.ipc_descr.specs.Descriptions.{Descriptions, is_desc}
use Rattle.ipc_state.specs.Agrees.{DescriptionsAgree, queue_meant, tickets_of, row_held}
use Rattle.ipc_state.proofs.Lookups.{row_is}
use Rattle.ipc_state.proofs.Opens.{made_left, made_open}
use Rattle.ipc_state.proofs.Accepted.{not_bad_queue}

-- what was created stays what it is
cond_off : {A : Type 0} (b c : Bool) (x y : A) → c ≡ false → cond (b && c) x y ≡ y
cond_off true c x y e = rw e refl
cond_off false c x y e = refl

object_stays : (c : Config) (h : History) (e : Event) (o : ℕ) → o < creations h → object c (after_accepted h e) o ≡ object c h o
object_stays c h e o lt = at (opening e) refl where
  at : (w : Option Opening) → opening e ≡ w → object c (after_accepted h e) o ≡ object c h o
  at None k = (grows c h e).object_of o ∙ made_left e k o _ _ _ _
  at (Some asked) k = (grows c h e).object_of o ∙ made_open e asked k o (creations h) (is_bound h) _ _ ∙ cond_off (is_new asked (is_bound h)) (eqb (creations h) o) _ _ (ne_eqb (creations h) o (λ (q : creations h ≡ o). absurd (omega arith)))

-- what a notify registers is a queue's
given_there : (o : ℕ) (w : Option Held) → gives_object o w ≡ true → (y : Held) × ((w ≡ Some y) × (y.object ≡ o))
given_there o None e = absurd cc
given_there o (Some y) e = (y, (refl, eqb-true _ _ e))

second : (a b : Bool) → (a && b) ≡ true → b ≡ true
second true b e = e
second false b e = absurd cc

registers_queue : (c : Config) (h : History) (o : ℕ) (e : Event) (x : Registration) → verdict c h e ≡ None → registers (holds h) o e ≡ Some x → is_some (attributes c h o) ≡ true
registers_queue c h o (Do sid (MqNotify desc on)) x accepted k = at (on && gives_object o (holds h sid.0 desc.0)) refl k where
  at : (b : Bool) → (on && gives_object o (holds h sid.0 desc.0)) ≡ b → cond b (Some (record { session = sid; desc = desc })) None ≡ Some x → is_some (attributes c h o) ≡ true
  at true q j =
      let y = given_there o (holds h sid.0 desc.0) (second on _ q) in
      subst (λ (i : ℕ). is_some (attributes c h i) ≡ true) y.1.1 (not_bad_queue c h sid.0 desc.0 y.0 (call_free c h sid (MqNotify desc on) Mq desc refl refl accepted).held y.1.0)
  at false q j = absurd cc
registers_queue c h o (Do sid call) x accepted k = absurd cc
registers_queue c h o (Hello found) x accepted k = absurd cc
registers_queue c h o (Hangup sid) x accepted k = absurd cc
registers_queue c h o (Tick moment) x accepted k = absurd cc

-- a queue is an object
some_object : (w : Option Object) → is_some (as_queue w) ≡ true → is_some w ≡ true
some_object None e = absurd cc
some_object (Some x) e = refl

-- so what is registered is one's, in a legal history
stays_queue : (c : Config) (h : History) (o : ℕ) (e : Event) → is_some (registered c h o) ≡ true → is_some (attributes c h o) ≡ true → is_some (attributes c (after_accepted h e) o) ≡ true
stays_queue c h o e there is = at (registered c h o) refl there where
  at : (w : Option Registration) → registered c h o ≡ w → is_some w ≡ true → is_some (attributes c (after_accepted h e) o) ≡ true
  at None k some = absurd cc
  at (Some x) k some = ap (λ y. is_some (as_queue y)) (object_stays c h e o (registered_created c h o x k)) ∙ is

queue_next : (c : Config) (h : History) (o : ℕ) → ((x : Registration) → registered c h o ≡ Some x → is_some (attributes c h o) ≡ true) → (e : Event) (r : Option Rule) → r ≡ verdict c h e → (x : Registration) → registered c (record { event = e; rule = r } ∷ h) o ≡ Some x → is_some (attributes c (record { event = e; rule = r } ∷ h) o) ≡ true
unfolding registered object
queue_next c h o known e (Some rule) legal x k = known x k
queue_next c h o known e None legal x k = at (registers (holds h) o e) refl (sym (registered_grows c h e o) ∙ k) where
  old : (w : Option Registration) → registered c h o ≡ w → unless (λ y. ends_registration y e (act c o e h) (queue c h o)) w ≡ Some x → is_some (attributes c (after_accepted h e) o) ≡ true
  old None q j = absurd cc
  old (Some y) q j = stays_queue c h o e (ap is_some q) (known y q)

  begun : (y : Registration) → registers (holds h) o e ≡ Some y → is_some (attributes c (after_accepted h e) o) ≡ true
  begun y q = made (registers_queue c h o e y (sym legal) q) where
    made : is_some (attributes c h o) ≡ true → is_some (attributes c (after_accepted h e) o) ≡ true
    made is = ap (λ z. is_some (as_queue z)) (object_stays c h e o (object_below c h o (some_object (object c h o) is))) ∙ is

  at : (w : Option Registration) → registers (holds h) o e ≡ w → option_or w (unless (λ y. ends_registration y e (act c o e h) (queue c h o)) (registered c h o)) ≡ Some x → is_some (attributes c (after_accepted h e) o) ≡ true
  at None q j = old (registered c h o) refl j
  at (Some y) q j = begun y q

pub registered_queue : (c : Config) (h : History) → Legal c h → (o : ℕ) (x : Registration) → registered c h o ≡ Some x → is_some (attributes c h o) ≡ true
unfolding registered
registered_queue c [] legal o x k = absurd cc
registered_queue c (r ∷ h) legal o x k = queue_next c h o (registered_queue c h legal.1 o) r.event r.rule legal.0 x k

-- what is kept of it
pub kept_desc : (c : Config) (h : History) (o : ℕ) → Legal c h → option_and_then (λ q. q.registered) (queue_meant c h o) ≡ option_map (λ x. x.desc) (registered c h o)
kept_desc c h o legal = at (attributes c h o) refl (registered c h o) refl where
  at : (v : Option Attributes) → attributes c h o ≡ v → (w : Option Registration) → registered c h o ≡ w → option_and_then (λ q. q.registered) (option_map (tickets_of w (queue c h o)) v) ≡ option_map (λ x. x.desc) w
  at (Some y) e w k = refl
  at None e None k = refl
  at None e (Some x) k = absurd (let some = sym (ap is_some e) ∙ registered_queue c h legal o x k in cc)

-- and whose it is
pub kept_session : (c : Config) (h : History) (t : Descriptions) (o : ℕ) (x : Registration) → DescriptionsAgree h t → registered c h o ≡ Some x → option_map (λ row. row.session) (find (is_desc x.desc.0) t.rows) ≡ Some x.session
kept_session c h t o x a k =
    let known = registered_held c h o x k in
    let now = holds_is_held h x.session.0 x.desc.0 known.x' known.held in
    ap (option_map (λ row. row.session)) (row_is h t x.desc.0 a ∙ ap (option_map (row_held (is_nonblock h) x.desc.0)) now)
    ∙ ap (λ (n : ℕ). Some (record { 0 = n })) (session_is x.session.0 known.x' (if_of_is x.session.0 x.desc.0 h known.x' known.held))

-- whether one is registered
pub some_registered : (f : Held → Option Registration) (w : Option Held) → is_some (option_and_then f w) ≡ is_some_and (λ x. is_some (f x)) w
some_registered f None = refl
some_registered f (Some x) = refl

-- a notify on that is accepted finds none
none_of : (w : Option Registration) → is_some w ≡ false → w ≡ None
none_of None e = refl
none_of (Some x) e = absurd cc

pub free_to_register : (c : Config) (h : History) (sid : Sid) (desc : Desc) (o : ℕ) → verdict c h (Do sid (MqNotify desc true)) ≡ None → option_map (λ (x : Held). x.object) (holds h sid.0 desc.0) ≡ Some o → registered c h o ≡ None
unfolding forbids notify_taken
free_to_register c h sid desc o accepted is = at (holds h sid.0 desc.0) (unforbidden c h (Do sid (MqNotify desc true)) accepted NotifyTaken) is where
  at : (w : Option Held) → is_some_and (λ x. is_some (registered c h x.object)) w ≡ false → option_map (λ (x : Held). x.object) w ≡ Some o → registered c h o ≡ None
  at None e j = absurd cc
  at (Some x) e j = let same : x.object ≡ o = cc in subst (λ (i : ℕ). registered c h i ≡ None) same (none_of (registered c h x.object) e)

-- the registration that is read off the tables, by the description that the queue keeps and by who holds it
abbrev pub read_by : Descriptions → Desc → Option Registration
read_by t desc = option_map (λ session. record { session = session; desc = desc }) (option_map (λ row. row.session) (find (is_desc desc.0) t.rows))

read_is : (c : Config) (h : History) (t : Descriptions) (o : ℕ) → Legal c h → DescriptionsAgree h t → option_and_then (read_by t) (option_and_then (λ q. q.registered) (queue_meant c h o)) ≡ registered c h o
read_is c h t o legal a = ap (option_and_then (read_by t)) (kept_desc c h o legal) ∙ at (registered c h o) refl where
  at : (w : Option Registration) → registered c h o ≡ w → option_and_then (read_by t) (option_map (λ x. x.desc) w) ≡ w
  at None k = refl
  at (Some x) k = ap (option_map (λ session. record { session = session; desc = x.desc })) (kept_session c h t o x a k)

pub registration_read : (c : Config) (h : History) (t : Descriptions) (s d : ℕ) (u : Option Tickets) → Legal c h → DescriptionsAgree h t → u ≡ option_and_then (queue_meant c h) (option_map (λ (x : Held). x.object) (holds h s d)) → option_and_then (read_by t) (option_and_then (λ q. q.registered) u) ≡ option_and_then (λ x. registered c h x.object) (holds h s d)
registration_read c h t s d u legal a is = ap (λ v. option_and_then (read_by t) (option_and_then (λ (q : Tickets). q.registered) v)) is ∙ at (holds h s d) where
  at : (w : Option Held) → option_and_then (read_by t) (option_and_then (λ (q : Tickets). q.registered) (option_and_then (queue_meant c h) (option_map (λ (x : Held). x.object) w))) ≡ option_and_then (λ x. registered c h x.object) w
  at None = refl
  at (Some x) = read_is c h t x.object legal a

-- where there is no queue, none is registered, or the description is not held; and where all is there
pub unread_queue : (t : Descriptions) (u : Option Tickets) (r : Option Registration) → option_and_then (read_by t) (option_and_then (λ q. q.registered) u) ≡ r → u ≡ None → None ≡ r
unread_queue t u r e none = rw none at e

pub unread_desc : (t : Descriptions) (u : Option Tickets) (q : Tickets) (r : Option Registration) → option_and_then (read_by t) (option_and_then (λ q. q.registered) u) ≡ r → u ≡ Some q → q.registered ≡ None → None ≡ r
unread_desc t u q r e some none = rw (some, none) at e

pub unread_session : (t : Descriptions) (u : Option Tickets) (q : Tickets) (desc : Desc) (r : Option Registration) → option_and_then (read_by t) (option_and_then (λ q. q.registered) u) ≡ r → u ≡ Some q → q.registered ≡ Some desc → option_map (λ row. row.session) (find (is_desc desc.0) t.rows) ≡ None → None ≡ r
unread_session t u q desc r e some there none = sym (ap (λ v. option_and_then (read_by t) (option_and_then (λ (p : Tickets). p.registered) v)) some ∙ ap (option_and_then (read_by t)) there ∙ ap (option_map (λ session. record { session = session; desc = desc })) none) ∙ e

pub read_whole : (t : Descriptions) (u : Option Tickets) (q : Tickets) (desc : Desc) (session : Sid) (r : Option Registration) → option_and_then (read_by t) (option_and_then (λ q. q.registered) u) ≡ r → u ≡ Some q → q.registered ≡ Some desc → option_map (λ row. row.session) (find (is_desc desc.0) t.rows) ≡ Some session → Some (record { session = session; desc = desc }) ≡ r
read_whole t u q desc session r e some there held = sym (ap (λ v. option_and_then (read_by t) (option_and_then (λ (p : Tickets). p.registered) v)) some ∙ ap (option_and_then (read_by t)) there ∙ ap (option_map (λ session. record { session = session; desc = desc })) held) ∙ e
