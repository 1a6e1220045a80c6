-- What is registered is held: the description gives the queue to the session.
use Rattle.std.proofs.Common.{◌≡◌, ℕ, Bool, true, false, ◌&&◌, [], ◌∷◌, cond, Option, Some, None, refl, sym, ap, subst, ◌∙◌}
use Rattle.std.specs.Option.{option_or}
use Rattle.std.proofs.lemmas.Bool.{eqb-true, eq-eqb}
use Rattle.ipc_terms.specs.declared.rule.Rule.{Rule}
use Rattle.ipc_terms.specs.declared.call.Call.TheVariants.{MqNotify}
use Rattle.ipc_terms.specs.declared.record.Event.{Event}
use Rattle.ipc_terms.specs.declared.record.Event.TheVariants.{Hello, Do, Hangup, Tick}
use Rattle.ipc_policy.specs.declared.config.Config.{Config}
use Rattle.ipc_policy.specs.declared.config.Held.{Held}
use Rattle.ipc_policy.specs.declared.config.Registration.{Registration}
use Rattle.ipc_policy.specs.Decides.History.{History, unless}
use Rattle.ipc_policy.specs.Decides.Descriptions.{held, holds, lets_go, ends_held}
use Rattle.ipc_policy.specs.Decides.Life.{gives_object}
use Rattle.ipc_policy.specs.Decides.Bodies.{act, queue}
use Rattle.ipc_policy.specs.Decides.Registrations.{registers, turns_off, fires, ends_registration, registered}
use Rattle.ipc_policy.specs.Follows.Rights.{RegisteredIsHeld}
use Rattle.ipc_policy.proofs.Blocked.Waits.{or_left, or_right}
use Rattle.ipc_policy.proofs.Blocked.ParkedSessions.{holds_on, if_of_is, session_is}

-- the session of a registration holds its description of the queue
pub record IsHeldFor (h : History) (o : ℕ) (x : Registration) : Type 0 where
  pub x' : Held
  pub held : holds h x.session.0 x.desc.0 ≡ Some x'
  pub object : x'.object ≡ o

given_is : (o : ℕ) (y : Option Held) → gives_object o y ≡ true → (h : History) (x : Registration) → holds h x.session.0 x.desc.0 ≡ y → IsHeldFor h o x
given_is o None k h x e = absurd cc
given_is o (Some x') k h x e = record { x' = x'; held = e; object = eqb-true _ _ k }

both : (a b : Bool) → (a && b) ≡ true → b ≡ true
both true b e = e
both false b e = absurd cc

begun : (h : History) (o : ℕ) (e : Event) (x : Registration) → registers (holds h) o e ≡ Some x → IsHeldFor (record { event = e; rule = None } ∷ h) o x
begun h o (Do sid (MqNotify desc on)) x k = at (on && gives_object o (holds h sid.0 desc.0)) refl k where
  at : (b : Bool) → (on && gives_object o (holds h sid.0 desc.0)) ≡ b → cond b (Some (record { session = sid; desc = desc })) None ≡ Some x → IsHeldFor (record { event = Do sid (MqNotify desc on); rule = None } ∷ h) o x
  at true q j =
      let same : record { session = sid; desc = desc } ≡ x = cc in
      let now = given_is o (holds h sid.0 desc.0) (both on _ q) h (record { session = sid; desc = desc }) refl in
      subst (IsHeldFor (record { event = Do sid (MqNotify desc on); rule = None } ∷ h) o) same
      (record { x' = now.x'; held = holds_on h sid.0 desc.0 now.x' (Do sid (MqNotify desc on)) now.held refl; object = now.object })
  at false q j = absurd cc
begun h o (Do sid call) x k = absurd cc
begun h o (Hello found) x k = absurd cc
begun h o (Hangup sid) x k = absurd cc
begun h o (Tick moment) x k = absurd cc

-- what is held for a registration that does not end is held on
goes_on : (c : Config) (h : History) (o : ℕ) (e : Event) (x : Registration) → ends_registration x e (act c o e h) (queue c h o) ≡ false → IsHeldFor h o x → IsHeldFor (record { event = e; rule = None } ∷ h) o x
goes_on c h o e x keeps known =
    let stays : lets_go x.session.0 x.desc.0 e ≡ false = or_right (turns_off x e) _ (or_left _ (fires (act c o e h) (queue c h o)) keeps) in
    let mine : known.x'.session.0 ≡ x.session.0 = session_is x.session.0 known.x' (if_of_is x.session.0 x.desc.0 h known.x' known.held) in
    let keeps' : ends_held x.desc.0 known.x' e ≡ false = subst (λ (s : ℕ). lets_go s x.desc.0 e ≡ false) (sym mine) stays in
    record { x' = known.x'; held = holds_on h x.session.0 x.desc.0 known.x' e known.held keeps'; object = known.object }

registered_next : (c : Config) (h : History) (o : ℕ) → ((x : Registration) → registered c h o ≡ Some x → IsHeldFor h o x) → (e : Event) (r : Option Rule) (x : Registration) → registered c (record { event = e; rule = r } ∷ h) o ≡ Some x → IsHeldFor (record { event = e; rule = r } ∷ h) o x
unfolding registered held holds
registered_next c h o known e (Some rule) x k = let was = known x k in record { x' = was.x'; held = was.held; object = was.object }
registered_next c h o known e None x k = at (registers (holds h) o e) refl k where
  old : (w : Option Registration) → registered c h o ≡ w → unless (λ y. ends_registration y e (act c o e h) (queue c h o)) w ≡ Some x → IsHeldFor (record { event = e; rule = None } ∷ h) o x
  old None q j = absurd cc
  old (Some y) q j = stays (ends_registration y e (act c o e h) (queue c h o)) refl j where
    stays : (b : Bool) → ends_registration y e (act c o e h) (queue c h o) ≡ b → cond b None (Some y) ≡ Some x → IsHeldFor (record { event = e; rule = None } ∷ h) o x
    stays true p i = absurd cc
    stays false p i = let same : y ≡ x = cc in subst (IsHeldFor (record { event = e; rule = None } ∷ h) o) same (goes_on c h o e y p (known y q))

  at : (w : Option Registration) → registers (holds h) o e ≡ w → option_or w (unless (λ y. ends_registration y e (act c o e h) (queue c h o)) (registered c h o)) ≡ Some x → IsHeldFor (record { event = e; rule = None } ∷ h) o x
  at None q j = old (registered c h o) refl j
  at (Some y) q j = let same : y ≡ x = cc in subst (IsHeldFor (record { event = e; rule = None } ∷ h) o) same (begun h o e y q)

-- what is registered is held, in every history
pub registered_held : (c : Config) (h : History) (o : ℕ) (x : Registration) → registered c h o ≡ Some x → IsHeldFor h o x
unfolding registered
registered_held c [] o x k = absurd cc
registered_held c (r ∷ h) o x k = registered_next c h o (registered_held c h o) r.event r.rule x k

pub registered_is_held : RegisteredIsHeld
registered_is_held c h o x k =
    let known = registered_held c h o x k in
    ap (gives_object o) known.held ∙ eq-eqb known.x'.object o known.object
