-- The answers of a step by their sessions.
use Rattle.std.proofs.Common.{◌≡◌, ◌∙◌, ℕ, Bool, true, false, eqb, List, [], ◌∷◌, ◌++◌, cond, Option, length, refl, sym, ap, arith}
use Rattle.std.specs.Prelude.{filter, map, unwrap_or}
use Rattle.std.specs.Option.{option_to_list}
use Rattle.std.proofs.lemmas.Bool.{eq-eqb, eqb-true, ne_eqb}
use Rattle.ipc_terms.specs.declared.ids.Sid.{Sid}
use Rattle.ipc_terms.specs.declared.call.Answer.{Answer}
use Rattle.ipc_policy.specs.Decides.History.{History}
use Rattle.ipc_policy.specs.Decides.Sessions.{live}
use Rattle.ipc_policy.specs.Decides.Verdict.{for_session}
use Rattle.ipc_core.specs.Outboxes.{session_at}
use Rattle.ipc_script.specs.Told.{to_session}
use Rattle.ipc_script.proofs.LivingLemmas.{AreLive}

pub for_more : (s : ℕ) (p : Sid × Answer) (ps : List (Sid × Answer)) → for_session s (p ∷ ps) ≡ cond (eqb p.0.0 s) (p.1 ∷ for_session s ps) (for_session s ps)
for_more s p ps = at (eqb p.0.0 s) where
  rest : List (Sid × Answer)
  rest = filter (λ q. eqb q.0.0 s) ps

  at : (b : Bool) → map (λ (q : Sid × Answer). q.1) (cond b (p ∷ rest) rest) ≡ cond b (p.1 ∷ for_session s ps) (for_session s ps)
  at true = refl
  at false = refl

-- a session that is not live is told nothing
none_told : (h : History) (s : ℕ) (told : List (Sid × Answer)) → AreLive h told → live h s ≡ false → for_session s told ≡ []
none_told h s [] all off = refl
none_told h s (p ∷ ps) all off =
    let other : eqb p.0.0 s ≡ false = ne_eqb _ _ (λ (e : p.0.0 ≡ s). let wrong : true ≡ false = sym all.0 ∙ ap (live h) e ∙ off in cc) in
    for_more s p ps ∙ rw other (none_told h s ps all.1 off)

pub all_told : (h : History) (s : ℕ) (told : List (Sid × Answer)) → AreLive h told → cond (live h s) (for_session s told) [] ≡ for_session s told
all_told h s told all = at (live h s) refl where
  at : (b : Bool) → live h s ≡ b → cond b (for_session s told) [] ≡ for_session s told
  at true e = refl
  at false e = sym (none_told h s told all e)

own_first : (p : Sid × Answer) (ps : List (Sid × Answer)) → for_session p.0.0 (p ∷ ps) ≡ p.1 ∷ for_session p.0.0 ps
own_first p ps = for_more p.0.0 p ps ∙ rw (eq-eqb p.0.0 p.0.0 refl) refl

same_sid : (a b : Sid) → eqb a.0 b.0 ≡ true → a ≡ b
same_sid a b e = ap {A = ℕ} {B = Sid} (λ n. record { 0 = n }) (eqb-true a.0 b.0 e)

-- of one answer
one_is_all : (p : Sid × Answer) (b : Sid) → to_session p.0 (for_session p.0.0 (p ∷ [])) ++ to_session b (cond (eqb p.0.0 b.0) [] (for_session b.0 (p ∷ []))) ≡ p ∷ []
one_is_all p b = rw (own_first p [], for_more b.0 p []) (at (eqb p.0.0 b.0)) where
  at : (d : Bool) → ◌≡◌ {A = List (Sid × Answer)} ((p.0, p.1) ∷ [] ++ to_session b (cond d [] (cond d (p.1 ∷ []) []))) (p ∷ [])
  at true = refl
  at false = refl

-- and of two
two_are_all : (p q : Sid × Answer)
    → to_session p.0 (for_session p.0.0 (p ∷ q ∷ [])) ++ to_session q.0 (cond (eqb p.0.0 q.0.0) [] (for_session q.0.0 (p ∷ q ∷ []))) ≡ p ∷ q ∷ []
two_are_all p q = at (eqb p.0.0 q.0.0) refl where
  at : (d : Bool) → eqb p.0.0 q.0.0 ≡ d
      → to_session p.0 (for_session p.0.0 (p ∷ q ∷ [])) ++ to_session q.0 (cond d [] (for_session q.0.0 (p ∷ q ∷ []))) ≡ p ∷ q ∷ []
  at true e =
      let same : p.0 ≡ q.0 = same_sid p.0 q.0 e in
      let theirs : for_session p.0.0 (q ∷ []) ≡ q.1 ∷ [] = ap (λ (s : Sid). for_session s.0 (q ∷ [])) same ∙ own_first q [] in
      ap (λ l. to_session p.0 l ++ []) (own_first p (q ∷ []) ∙ ap (λ l. p.1 ∷ l) theirs) ∙ ap (λ (s : Sid). (p.0, p.1) ∷ (s, q.1) ∷ []) same
  at false e =
      let other : eqb q.0.0 p.0.0 ≡ false = ne_eqb _ _ (λ (k : q.0.0 ≡ p.0.0). let wrong : true ≡ false = sym (eq-eqb _ _ (sym k)) ∙ e in cc) in
      let mine : for_session p.0.0 (p ∷ q ∷ []) ≡ p.1 ∷ [] = own_first p (q ∷ []) ∙ ap (λ l. p.1 ∷ l) (for_more p.0.0 q [] ∙ rw other refl) in
      let theirs : for_session q.0.0 (p ∷ q ∷ []) ≡ q.1 ∷ [] = for_more q.0.0 p (q ∷ []) ∙ rw e (own_first q []) in
      ap (λ l. to_session p.0 l ++ to_session q.0 (for_session q.0.0 (p ∷ q ∷ []))) mine ∙ ap (λ l. (p.0, p.1) ∷ to_session q.0 l) theirs

pub both_are_all : (nobody : Sid) (told : List (Sid × Answer)) (caller other : Option Sid) → caller ≡ session_at 0 told → other ≡ session_at 1 told
    → option_to_list caller ++ option_to_list other ≡ map (λ p. p.0) told
    → let a = unwrap_or caller nobody in let b = unwrap_or other nobody in
    to_session a (for_session a.0 told) ++ to_session b (cond (eqb a.0 b.0) [] (for_session b.0 told)) ≡ told
both_are_all nobody [] caller other is also whole = rw (is, also) (at (eqb nobody.0 nobody.0)) where
  at : (d : Bool) → ◌≡◌ {A = List (Sid × Answer)} (to_session nobody (cond d [] [])) []
  at true = refl
  at false = refl
both_are_all nobody (p ∷ []) caller other is also whole = rw (is, also) (one_is_all p nobody)
both_are_all nobody (p ∷ q ∷ []) caller other is also whole = rw (is, also) (two_are_all p q)
both_are_all nobody (p ∷ q ∷ r ∷ rest) caller other is also whole = absurd (let long = ap length (rw (is, also) at whole) in omega arith)

pub nobody_else : (nobody : Sid) (told : List (Sid × Answer)) (caller other : Option Sid) → caller ≡ session_at 0 told → other ≡ session_at 1 told
    → option_to_list caller ++ option_to_list other ≡ map (λ p. p.0) told
    → let a = unwrap_or caller nobody in let b = unwrap_or other nobody in
    (s : ℕ) → cond (eqb b.0 s) [] (cond (eqb a.0 s) [] (for_session s told)) ≡ []
nobody_else nobody [] caller other is also whole s = rw (is, also) (at (eqb nobody.0 s)) where
  at : (d : Bool) → ◌≡◌ {A = List Answer} (cond d [] (cond d [] [])) []
  at true = refl
  at false = refl
nobody_else nobody (p ∷ []) caller other is also whole s = rw (is, also, for_more s p []) (at (eqb nobody.0 s) (eqb p.0.0 s)) where
  at : (d k : Bool) → ◌≡◌ {A = List Answer} (cond d [] (cond k [] (cond k (p.1 ∷ []) []))) []
  at true k = refl
  at false true = refl
  at false false = refl
nobody_else nobody (p ∷ q ∷ []) caller other is also whole s =
    rw (is, also, for_more s p (q ∷ []), for_more s q []) (at (eqb q.0.0 s) (eqb p.0.0 s)) where
      at : (d k : Bool) → ◌≡◌ {A = List Answer} (cond d [] (cond k [] (cond k (p.1 ∷ cond d (q.1 ∷ []) []) (cond d (q.1 ∷ []) [])))) []
      at true k = refl
      at false true = refl
      at false false = refl
nobody_else nobody (p ∷ q ∷ r ∷ rest) caller other is also whole s = absurd (let long = ap length (rw (is, also) at whole) in omega arith)
