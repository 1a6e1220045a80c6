-- In a legal history the gives that led to who holds a description are all that were accepted in between.
use Rattle.std.proofs.Common.{◌≡◌, ℕ, suc, ◌<◌, ◌≤◌, ◌⊎◌, inl, inr, Bool, true, false, ◌||◌, eqb, [], ◌∷◌, length, cond, Option, Some, None, is_some, refl, sym, ap, subst, ◌∙◌, arith}
use Rattle.std.specs.List.{list_any}
use Rattle.std.proofs.lemmas.Bool.{cases_eq, cases_lt, eq-eqb, ne_eqb}
use Rattle.ipc_terms.specs.declared.ids.Sid.{Sid}
use Rattle.ipc_terms.specs.declared.ids.Desc.{Desc}
use Rattle.ipc_terms.specs.declared.ids.Family.TheVariants.{Mq}
use Rattle.ipc_terms.specs.declared.record.Record.{Record}
use Rattle.ipc_terms.specs.declared.record.Event.TheVariants.{Do}
use Rattle.ipc_terms.specs.declared.call.Call.TheVariants.{MqGive}
use Rattle.ipc_policy.specs.declared.config.Config.{Config}
use Rattle.ipc_policy.specs.declared.config.Held.{Held}
use Rattle.ipc_policy.specs.Decides.History.{History, record_at, before_at, after_accepted}
use Rattle.ipc_policy.specs.Decides.Descriptions.{held, holds}
use Rattle.ipc_policy.specs.Decides.Rules.{not_held}
use Rattle.ipc_policy.specs.Decides.Verdict.{Legal, verdict}
use Rattle.ipc_policy.specs.Follows.Confined.{IsAccepted, Give, HeldThroughout, EachLeadIsWhole}
use Rattle.ipc_policy.proofs.Blocked.Holders.{one_holder}
use Rattle.ipc_policy.proofs.Histories.Moments.{record_stays, before_stays, record_now, before_now, legal_at}
use Rattle.ipc_policy.proofs.Histories.Unforbidden.{call_free, taker_there}
use Rattle.ipc_policy.proofs.Holdings.HeldRights.{held_handed_over}

-- what came before the next record is the record of the place, and what came before that
before_newest : (h : History) (p : ℕ) (r : Record) → record_at p h ≡ Some r → length h ≡ suc p → h ≡ r ∷ before_at p h
before_newest [] p r k n = absurd cc
before_newest (q ∷ h) p r k n =
    let same : length h ≡ p = omega arith in
    let newest : record_at p (q ∷ h) ≡ Some q = subst (λ (i : ℕ). record_at i (q ∷ h) ≡ Some q) same (record_now h q) in
    let there : before_at p (q ∷ h) ≡ h = subst (λ (i : ℕ). before_at i (q ∷ h) ≡ h) same (before_now h q) in
    let one : ◌≡◌ {A = Option Record} (Some q) (Some r) = sym newest ∙ k in
    let mine : q ≡ r = cc in
    ap (λ (x : Record). x ∷ h) mine ∙ ap (λ (b : History). r ∷ b) (sym there)

before_next : (h : History) (p : ℕ) (r : Record) → record_at p h ≡ Some r → suc p < length h → before_at (suc p) h ≡ r ∷ before_at p h
before_next [] p r k lt = absurd cc
before_next (q ∷ h) p r k lt = at (cases_eq (length h) (suc p)) (before_next h p r) where
  old : record_at p h ≡ Some r
  old = sym (record_stays h q p (omega arith)) ∙ k

  same : before_at p (q ∷ h) ≡ before_at p h
  same = before_stays h q p (omega arith)

  at : (length h ≡ suc p) ⊎ (length h ≡ suc p → ⊥) → (record_at p h ≡ Some r → suc p < length h → before_at (suc p) h ≡ r ∷ before_at p h) → before_at (suc p) (q ∷ h) ≡ r ∷ before_at p (q ∷ h)
  at (inl n) rest = subst (λ (i : ℕ). before_at i (q ∷ h) ≡ h) n (before_now h q) ∙ before_newest h p r old n ∙ ap (λ (b : History). r ∷ b) (sym same)
  at (inr other) rest = before_stays h q (suc p) (omega arith) ∙ rest old (omega arith) ∙ ap (λ (b : History). r ∷ b) (sym same)

-- where something is held a record follows
none_from : (h : History) (p : ℕ) → length h ≤ p → before_at p h ≡ []
none_from [] p le = refl
none_from (q ∷ h) p le = ap (λ b. cond b h (before_at p h)) (ne_eqb (length h) p (λ (same : length h ≡ p). absurd (omega arith))) ∙ none_from h p (omega arith)

held_within : (h : History) (p s d : ℕ) (x : Held) → holds (before_at p h) s d ≡ Some x → p < length h
unfolding holds held
held_within h p s d x k = at (cases_lt p (length h)) where
  at : (p < length h) ⊎ (length h ≤ p) → p < length h
  at (inl lt) = lt
  at (inr le) = absurd (let none : None ≡ Some x = sym (ap (λ b. holds b s d) (none_from h p le)) ∙ k in cc)

-- what is given changes hands
holds_given : (c : Config) (h : History) (sid : Sid) (desc : Desc) → not_held c h sid.0 Mq desc.0 ≡ false → is_some (holds h sid.0 desc.0) ≡ true
holds_given c h sid desc known = at (holds h sid.0 desc.0) refl where
  at : (w : Option Held) → holds h sid.0 desc.0 ≡ w → is_some w ≡ true
  at None k = absurd (let wrong : true ≡ false = rw k at known in cc)
  at (Some x) k = refl

some_is : {A : Type 0} (w : Option A) (x : A) → w ≡ Some x → is_some w ≡ true
some_is w x k = ap is_some k

changes_hands : (c : Config) (h : History) (sid taker : Sid) (desc : Desc) (x : Held) → verdict c h (Do sid (MqGive desc taker)) ≡ None → holds h x.session.0 desc.0 ≡ Some x → holds (after_accepted h (Do sid (MqGive desc taker))) x.session.0 desc.0 ≡ Some x → ⊥
changes_hands c h sid taker desc x accepted was now = at (holds h sid.0 desc.0) refl where
  given : is_some (holds h sid.0 desc.0) ≡ true
  given = holds_given c h sid desc (call_free c h sid (MqGive desc taker) Mq desc refl refl accepted).held

  at : (w : Option Held) → holds h sid.0 desc.0 ≡ w → ⊥
  at None k = absurd (let wrong : true ≡ false = sym given ∙ ap is_some k in cc)
  at (Some y) k =
      let giver : x.session.0 ≡ sid.0 = one_holder h x.session.0 sid.0 desc.0 (some_is _ x was) given in
      let taken = held_handed_over h sid taker desc y k in
      let same : taker.0 ≡ x.session.0 = one_holder (after_accepted h (Do sid (MqGive desc taker))) taker.0 x.session.0 desc.0 (some_is _ _ taken) (some_is _ x now) in
      let other = (taker_there c h sid taker desc accepted).1 in
      let wrong : true ≡ false = sym (eq-eqb taker.0 sid.0 (same ∙ giver)) ∙ other in
      absurd cc

-- so no session holds throughout what is given meanwhile
given_at : (c : Config) (h : History) (d place : ℕ) (giver taker : Sid) (x : Held) (from until : ℕ) → Legal c h → IsAccepted h place (Do giver (MqGive (record { 0 = d }) taker)) → from < place → place < until → HeldThroughout h d x from until → ⊥
given_at c h d place giver taker x from until legal recorded after before known =
    let then' = known (suc place) (omega arith) (omega arith) in
    let next : before_at (suc place) h ≡ after_accepted (before_at place h) (Do giver (MqGive (record { 0 = d }) taker)) = before_next h place _ recorded (held_within h (suc place) x.session.0 d x then') in
    changes_hands c (before_at place h) giver taker (record { 0 = d }) x (sym (legal_at c h place _ legal recorded).0) (known place after (omega arith)) (ap (λ b. holds b x.session.0 d) (sym next) ∙ then')

or_first : (a b : Bool) → a ≡ true → (a || b) ≡ true
or_first true b e = refl
or_first false b e = absurd cc

or_second : (a b : Bool) → b ≡ true → (a || b) ≡ true
or_second true b e = refl
or_second false b e = e

pub lead_is_whole : EachLeadIsWhole
lead_is_whole c h d [] first from last until place giver taker legal known recorded after before = absurd (given_at c h d place giver taker last from until legal recorded after before known.2)
lead_is_whole c h d (g ∷ gs) first from last until place giver taker legal known recorded after before = at (cases_eq g.place place) (cases_lt place g.place) (lead_is_whole c h d gs first from (record last { session = g.giver }) g.place place giver taker legal known.4 recorded after) where
  at : (g.place ≡ place) ⊎ (g.place ≡ place → ⊥) → (place < g.place) ⊎ (g.place ≤ place) → (place < g.place → list_any (λ (x : Give). eqb x.place place) gs ≡ true) → (eqb g.place place || list_any (λ (x : Give). eqb x.place place) gs) ≡ true
  at (inl same) which rest = or_first (eqb g.place place) (list_any (λ (x : Give). eqb x.place place) gs) (eq-eqb g.place place same)
  at (inr other) (inl lt) rest = or_second (eqb g.place place) (list_any (λ (x : Give). eqb x.place place) gs) (rest lt)
  at (inr other) (inr le) rest = absurd (given_at c h d place giver taker last g.place until legal recorded (omega arith) before known.3)
