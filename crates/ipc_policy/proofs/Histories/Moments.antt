-- The record of a place, what came before it, and what a longer history keeps of them.
use Rattle.std.proofs.Common.{◌≡◌, ℕ, suc, ◌<◌, Bool, true, false, eqb, [], ◌∷◌, length, cond, Some, refl, sym, ap, subst, inl, inr, ◌⊎◌, arith}
use Rattle.std.proofs.lemmas.Bool.{eqb-true, eqb-false, eq-eqb, ne_eqb}
use Rattle.ipc_terms.specs.declared.record.Record.{Record}
use Rattle.ipc_policy.specs.declared.config.Config.{Config}
use Rattle.ipc_policy.specs.Decides.History.{History, record_at, before_at}
use Rattle.ipc_policy.specs.Decides.Verdict.{Legal, verdict}

pub place_below : (h : History) (i : ℕ) (r : Record) → record_at i h ≡ Some r → i < length h
place_below [] i r e = absurd cc
place_below (q ∷ h) i r e = here (eqb (length h) i) refl e (place_below h i r) where
  here : (b : Bool) → eqb (length h) i ≡ b → cond b (Some q) (record_at i h) ≡ Some r → (record_at i h ≡ Some r → i < length h) → i < suc (length h)
  here true k j rest = let same : length h ≡ i = eqb-true _ _ k in omega arith
  here false k j rest = let below = rest j in omega arith

earlier : (h : History) (i : ℕ) → i < length h → eqb (length h) i ≡ false
earlier h i lt = ne_eqb _ _ (λ (q : length h ≡ i). absurd (omega arith))

-- a longer history keeps both
pub record_stays : (h : History) (q : Record) (i : ℕ) → i < length h → record_at i (q ∷ h) ≡ record_at i h
record_stays h q i lt = ap (λ b. cond b (Some q) (record_at i h)) (earlier h i lt)

pub before_stays : (h : History) (q : Record) (i : ℕ) → i < length h → before_at i (q ∷ h) ≡ before_at i h
before_stays h q i lt = ap (λ b. cond b h (before_at i h)) (earlier h i lt)

-- the newest record
pub record_now : (h : History) (q : Record) → record_at (length h) (q ∷ h) ≡ Some q
record_now h q = ap (λ b. cond b (Some q) (record_at (length h) h)) (eq-eqb (length h) (length h) refl)

pub before_now : (h : History) (q : Record) → before_at (length h) (q ∷ h) ≡ h
before_now h q = ap (λ b. cond b h (before_at (length h) h)) (eq-eqb (length h) (length h) refl)

-- the record of a place of a longer history is the newest, or was there
pub newest_or_before : (h : History) (q : Record) (i : ℕ) → i < length (q ∷ h) → (i ≡ length h) ⊎ (i < length h)
newest_or_before h q i lt = at (eqb (length h) i) refl where
  at : (b : Bool) → eqb (length h) i ≡ b → (i ≡ length h) ⊎ (i < length h)
  at true k = inl (sym (eqb-true _ _ k))
  at false k = inr (let other = eqb-false _ _ k in omega arith)

-- at each place of a legal history the rule is the verdict, and what came before is legal
pub legal_at : (c : Config) (h : History) (i : ℕ) (r : Record) → Legal c h → record_at i h ≡ Some r → (r.rule ≡ verdict c (before_at i h) r.event) × Legal c (before_at i h)
legal_at c [] i r legal e = absurd cc
legal_at c (q ∷ h) i r legal e = here (eqb (length h) i) e (legal_at c h i r legal.1) where
  here : (b : Bool) → cond b (Some q) (record_at i h) ≡ Some r → (record_at i h ≡ Some r → (r.rule ≡ verdict c (before_at i h) r.event) × Legal c (before_at i h)) → (r.rule ≡ verdict c (cond b h (before_at i h)) r.event) × Legal c (cond b h (before_at i h))
  here true j rest = let same : q ≡ r = cc in (subst (λ (x : Record). x.rule ≡ verdict c h x.event) same legal.0, legal.1)
  here false j rest = rest j
