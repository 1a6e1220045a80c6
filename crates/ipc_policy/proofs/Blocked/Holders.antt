-- A description has one holder, and a session that is parked gives none away.
use Rattle.std.proofs.Common.{◌≡◌, ℕ, Bool, true, false, eqb, cond, Option, Some, None, is_some, refl, sym, ap, ◌∙◌}
use Rattle.std.specs.Prelude.{option_and_then}
use Rattle.std.proofs.lemmas.Bool.{eqb-true, eq-eqb}
use Rattle.ipc_terms.specs.declared.ids.Sid.{Sid}
use Rattle.ipc_terms.specs.declared.ids.Desc.{Desc}
use Rattle.ipc_terms.specs.declared.call.Call.TheVariants.{MqGive}
use Rattle.ipc_terms.specs.declared.record.Event.TheVariants.{Do}
use Rattle.ipc_policy.specs.declared.config.Config.{Config}
use Rattle.ipc_policy.specs.declared.config.Held.{Held}
use Rattle.ipc_policy.specs.Decides.History.{History}
use Rattle.ipc_policy.specs.Decides.Descriptions.{held, if_of, holds}
use Rattle.ipc_policy.specs.Decides.Parking.{Parked, parked}
use Rattle.ipc_policy.specs.Decides.Verdict.{verdict}
use Rattle.ipc_policy.proofs.Blocked.CallsListed.{another_call}

mine : (s : ℕ) (x : Held) → is_some (if_of s x) ≡ true → x.session.0 ≡ s
mine s x e = at (eqb x.session.0 s) refl e where
  at : (b : Bool) → eqb x.session.0 s ≡ b → is_some (cond b (Some x) None) ≡ true → x.session.0 ≡ s
  at true q k = eqb-true _ _ q
  at false q k = absurd cc

same_session : (s t : ℕ) (w : Option Held) → is_some (option_and_then (if_of s) w) ≡ true → is_some (option_and_then (if_of t) w) ≡ true → s ≡ t
same_session s t None e k = absurd cc
same_session s t (Some x) e k = sym (mine s x e) ∙ mine t x k

pub one_holder : (h : History) (s t d : ℕ) → is_some (holds h s d) ≡ true → is_some (holds h t d) ≡ true → s ≡ t
unfolding holds
one_holder h s t d e k = same_session s t (held h d) e k

pub parked_gives_nothing : (c : Config) (h : History) (sid taker : Sid) (desc : Desc) → verdict c h (Do sid (MqGive desc taker)) ≡ None → parked c h sid.0 ≡ None
parked_gives_nothing c h sid taker desc accepted = at (parked c h sid.0) refl where
  at : (w : Option Parked) → parked c h sid.0 ≡ w → parked c h sid.0 ≡ None
  at None q = q
  at (Some p) q =
      let other : eqb sid.0 sid.0 ≡ false = another_call c h sid (MqGive desc taker) sid.0 (sym accepted) refl (ap is_some q) in
      absurd (let wrong : true ≡ false = sym (eq-eqb sid.0 sid.0 refl) ∙ other in cc)
