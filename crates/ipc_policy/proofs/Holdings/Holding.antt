-- What is held, how many, and what an open, a close and a give make of it.
use Rattle.std.proofs.Common.{◌≡◌, ℕ, zero, suc, ◌+◌, ◌-◌, ◌<◌, ◌≤◌, Bool, true, false, ◌&&◌, eqb, [], ◌∷◌, cond, Option, Some, None, inl, inr, ◌⊎◌, refl, sym, ap, subst, ◌∙◌, arith, add-one}
use Rattle.std.specs.Prelude.{is_some, option_and_then}
use Rattle.std.specs.Option.{option_or, option_map}
use Rattle.std.proofs.lemmas.Bool.{cases_eq, eqb-true, eq-eqb, ne_eqb, and_parts, and_from, and_left, and_right}
use Rattle.ipc_terms.specs.declared.rule.Rule.{Rule}
use Rattle.ipc_terms.specs.declared.ids.Sid.{Sid}
use Rattle.ipc_terms.specs.declared.ids.Desc.{Desc}
use Rattle.ipc_terms.specs.declared.call.Call.TheVariants.{Umask, MqOpen, MqClose, MqSend, MqReceive, MqGetattr, MqSetattr, MqNotify, MqGive, MqUnlink, SemOpen, SemClose, SemUnlink, SemPost, SemWait, SemTryWait, SemGetvalue, ListNames, StatName, Chmod, Chown, SetLimit, Interrupt, Audit, MqTimedSend, MqTimedReceive, SemTimedWait}
use Rattle.ipc_terms.specs.declared.record.Event.{Event}
use Rattle.ipc_terms.specs.declared.record.Record.{Record}
use Rattle.ipc_terms.specs.declared.record.Event.TheVariants.{Hello, Do, Hangup, Tick}
use Rattle.ipc_policy.specs.declared.config.Held.{Held}
use Rattle.ipc_policy.specs.Decides.History.{History, unless, unended_from, how_many_below}
use Rattle.ipc_policy.specs.Decides.Names.{Opening, queue_opening, semaphore_opening, opening, bound, creations}
use Rattle.ipc_policy.specs.Decides.Descriptions.{opens, opened, held_as, hands_over, gives, ends_held, held, if_of, holds, held_count}
use Rattle.ipc_policy.specs.Follows.Grow.{held_after, count_moved, held_count_after}

pub kept_some : {A : Type 0} (p : A → Bool) (o : Option A) → is_some (unless p o) ≡ true → is_some o ≡ true
kept_some p None e = e
kept_some p (Some x) e = refl

pub kept_all : {A : Type 0} (o : Option A) → unless (λ x. false) o ≡ o
kept_all None = refl
kept_all (Some x) = refl

-- what was not ended was there
pub kept_is : {A : Type 0} (p : A → Bool) (w : Option A) (x : A) → unless p w ≡ Some x → w ≡ Some x
kept_is p None x e = absurd cc
kept_is p (Some y) x e = at (p y) e where
  at : (b : Bool) → cond b None (Some y) ≡ Some x → Some y ≡ Some x
  at true k = absurd cc
  at false k = k

-- a give hands over what there was
pub nothing_handed : (d : ℕ) (e : Event) → hands_over d e None ≡ None
nothing_handed d (Do sid (MqGive desc taker)) = refl
nothing_handed d e = refl

handed_some : (d : ℕ) (e : Event) (q : Held → Bool) (w : Option Held) → is_some (option_or (hands_over d e w) (unless q w)) ≡ true → is_some w ≡ true
handed_some d e q None k = rw (nothing_handed d e) at k
handed_some d e q (Some x) k = refl

-- what an open with this number gives, or else a give
abbrev given : History → ℕ → Event → Option Opening → Option Held
given h d e None = hands_over d e (held h d)
given h d e (Some asked) = cond (eqb (opens h) d) (option_map (held_as asked) (opened h asked)) None

-- a description is numbered below the opens
held_below_at : (h : History) (d : ℕ) → (is_some (held h d) ≡ true → d < opens h) → (e : Event) (q : Held → Bool) (o : Option Opening) → is_some (option_or (given h d e o) (unless q (held h d))) ≡ true → d < cond (is_some o) (opens h + 1) (opens h)
held_below_at h d known e q None k = known (handed_some d e q (held h d) k)
held_below_at h d known e q (Some asked) k = at (eqb (opens h) d) refl k where
  at : (b : Bool) → eqb (opens h) d ≡ b → is_some (option_or (cond b (option_map (held_as asked) (opened h asked)) None) (unless q (held h d))) ≡ true → d < opens h + 1
  at true same j = let same' : opens h ≡ d = eqb-true _ _ same in omega arith
  at false _ j = let below = known (kept_some q (held h d) j) in omega arith

held_below_more : (h : History) (d : ℕ) → (is_some (held h d) ≡ true → d < opens h) → (e : Event) (r : Option Rule) → is_some (held (record { event = e; rule = r } ∷ h) d) ≡ true → d < opens (record { event = e; rule = r } ∷ h)
unfolding held opens
held_below_more h d known e (Some rule) k = known k
held_below_more h d known e None k = held_below_at h d known e (λ x. ends_held d x e) (opening e) k

pub held_below : (h : History) (d : ℕ) → is_some (held h d) ≡ true → d < opens h
unfolding held opens
held_below [] d k = absurd cc
held_below (r ∷ h) d k = held_below_more h d (held_below h d) r.event r.rule k

holds_held : (h : History) (s d : ℕ) → is_some (holds h s d) ≡ true → is_some (held h d) ≡ true
unfolding holds
holds_held h s d e = at (held h d) e where
  at : (o : Option Held) → is_some (option_and_then (if_of s) o) ≡ true → is_some o ≡ true
  at None k = k
  at (Some x) k = refl

pub holds_below : (h : History) (s d : ℕ) → is_some (holds h s d) ≡ true → d < opens h
holds_below h s d e = held_below h d (holds_held h s d e)

-- a number that no open has taken yet is not held
pub unheld : (h : History) (s d : ℕ) → opens h ≤ d → is_some (holds h s d) ≡ false
unheld h s d le = at (is_some (holds h s d)) refl where
  at : (b : Bool) → is_some (holds h s d) ≡ b → b ≡ false
  at true e = absurd (let lt = holds_below h s d e in omega arith)
  at false e = refl

-- what description d gives after an accepted event
pub held_grows : (h : History) (e : Event) (d : ℕ) → held (record { event = e; rule = None } ∷ h) d ≡ held_after d e (opens h) (bound h) (creations h) (held h d)
unfolding held
held_grows h (Hello found) d = refl
held_grows h (Do sid (MqOpen asked)) d = ap (option_or _) (kept_all (unended_from (gives d) (λ x e before. ends_held d x e) h))
held_grows h (Do sid (SemOpen asked)) d = ap (option_or _) (kept_all (unended_from (gives d) (λ x e before. ends_held d x e) h))
held_grows h (Do sid call) d = refl
held_grows h (Hangup sid) d = refl
held_grows h (Tick moment) d = refl

-- tests that agree below a limit have as many numbers below it
pub how_many_below_same : (f g : ℕ → Bool) (n : ℕ) → ((d : ℕ) → d < n → f d ≡ g d) → how_many_below f n ≡ how_many_below g n
how_many_below_same f g zero same = refl
how_many_below_same f g (suc n) same = grind (arith, how_many_below_same f g n (λ d lt. same d (omega arith)), same n (omega arith))

-- where one number below the limit fails, and each other is as before, there is one less
pub how_many_below_less : (f g : ℕ → Bool) (n k : ℕ) → k < n → f k ≡ true → g k ≡ false → ((d : ℕ) → (d ≡ k → ⊥) → g d ≡ f d) → how_many_below g n + 1 ≡ how_many_below f n
how_many_below_less f g zero k lt on off others = absurd (omega arith)
how_many_below_less f g (suc n) k lt on off others = less_at (λ below. how_many_below_less f g n k below on off others) (cases_eq n k) where
  later_at : (b : Bool) → how_many_below g n + 1 ≡ how_many_below f n → cond b (how_many_below g n + 1) (how_many_below g n) + 1 ≡ cond b (how_many_below f n + 1) (how_many_below f n)
  later_at true e = omega arith
  later_at false e = e

  less_at : (k < n → how_many_below g n + 1 ≡ how_many_below f n) → (n ≡ k) ⊎ (n ≡ k → ⊥) → how_many_below g (suc n) + 1 ≡ how_many_below f (suc n)
  less_at earlier (inl e) =
      let fn : f n ≡ true = rw e on in
      let gn : g n ≡ false = rw e off in
      let rest = how_many_below_same g f n (λ d below. others d (λ q. absurd (omega arith))) in
      rw (fn, gn) (grind (arith, rest))
  less_at earlier (inr ne) =
      let same : g n ≡ f n = others n ne in
      let rest = earlier (omega arith) in
      rw same (later_at (f n) rest)

-- what session s holds by description d after an open
mine : (b : Bool) (x : Held) → is_some (cond b (Some x) None) ≡ b
mine true x = refl
mine false x = refl

and_off : (b : Bool) → false ≡ (b && false)
and_off true = refl
and_off false = refl

and_on : (b : Bool) → b ≡ (b && true)
and_on true = refl
and_on false = refl

opened_at : (s : ℕ) (asked : Opening) (b : Bool) (o : Option ℕ) (w : Option Held) → (b ≡ true → is_some (option_and_then (if_of s) w) ≡ false) → is_some (option_and_then (if_of s) (option_or (cond b (option_map (held_as asked) o) None) w)) ≡ cond b (eqb asked.session.0 s && is_some o) (is_some (option_and_then (if_of s) w))
opened_at s asked true None w none = none refl ∙ and_off (eqb asked.session.0 s)
opened_at s asked true (Some o) w none = mine (eqb asked.session.0 s) (held_as asked o) ∙ and_on (eqb asked.session.0 s)
opened_at s asked false o w none = refl

holds_opened : (h : History) (e : Event) (asked : Opening) → ((d : ℕ) → held_after d e (opens h) (bound h) (creations h) (held h d) ≡ option_or (cond (eqb (opens h) d) (option_map (held_as asked) (opened h asked)) None) (held h d)) → (s d : ℕ) → is_some (holds (record { event = e; rule = None } ∷ h) s d) ≡ cond (eqb (opens h) d) (eqb asked.session.0 s && is_some (opened h asked)) (is_some (holds h s d))
unfolding holds
holds_opened h e asked after s d = ap (λ o. is_some (option_and_then (if_of s) o)) (held_grows h e d ∙ after d) ∙ opened_at s asked (eqb (opens h) d) (opened h asked) (held h d) (λ k. none (eqb-true _ _ k)) where
  none : opens h ≡ d → is_some (option_and_then (if_of s) (held h d)) ≡ false
  none k = unheld h s d (omega arith)

-- after a close
closed_at : (s d : ℕ) (sid : Sid) (desc : Desc) (w : Option Held) (b : Bool) → (eqb sid.0 s && eqb desc.0 d) ≡ b → is_some (option_and_then (if_of s) (unless (λ x. eqb sid.0 x.session.0 && eqb desc.0 d) w)) ≡ cond b false (is_some (option_and_then (if_of s) w))
closed_at s d sid desc None true e = refl
closed_at s d sid desc None false e = refl
closed_at s d sid desc (Some x) b e = at (eqb sid.0 x.session.0 && eqb desc.0 d) refl b e where
  other : (eqb sid.0 x.session.0 && eqb desc.0 d) ≡ false → (eqb sid.0 s && eqb desc.0 d) ≡ true → eqb x.session.0 s ≡ false
  other f t = ne_eqb x.session.0 s (λ (q : x.session.0 ≡ s).
      let parts = and_parts (eqb sid.0 s) (eqb desc.0 d) t in
      let same : sid.0 ≡ s = eqb-true sid.0 s parts.0 in
      let both : (eqb sid.0 x.session.0 && eqb desc.0 d) ≡ true = and_from _ _ (eq-eqb sid.0 x.session.0 (same ∙ sym q)) parts.1 in
      let no : true ≡ false = sym both ∙ f in cc)

  gone : (eqb sid.0 x.session.0 && eqb desc.0 d) ≡ true → (eqb sid.0 s && eqb desc.0 d) ≡ false → eqb x.session.0 s ≡ false
  gone t f = ne_eqb x.session.0 s (λ (q : x.session.0 ≡ s).
      let parts = and_parts (eqb sid.0 x.session.0) (eqb desc.0 d) t in
      let same : sid.0 ≡ x.session.0 = eqb-true sid.0 x.session.0 parts.0 in
      let both : (eqb sid.0 s && eqb desc.0 d) ≡ true = and_from _ _ (eq-eqb sid.0 s (same ∙ q)) parts.1 in
      let no : true ≡ false = sym both ∙ f in cc)

  at : (k : Bool) → (eqb sid.0 x.session.0 && eqb desc.0 d) ≡ k → (b : Bool) → (eqb sid.0 s && eqb desc.0 d) ≡ b → is_some (option_and_then (if_of s) (cond k None (Some x))) ≡ cond b false (is_some (if_of s x))
  at true t true e = refl
  at true t false e = rw (gone t e) refl
  at false f true e = rw (other f e) refl
  at false f false e = refl

-- what a close of this description by this session leaves of what is held
abbrev Closes : History → Event → Sid → Desc → Type 0
Closes h e sid desc = (d : ℕ) → held_after d e (opens h) (bound h) (creations h) (held h d) ≡ unless (λ x. eqb sid.0 x.session.0 && eqb desc.0 d) (held h d)

holds_closed : (h : History) (e : Event) (sid : Sid) (desc : Desc) → Closes h e sid desc → (s d : ℕ) (b : Bool) → (eqb sid.0 s && eqb desc.0 d) ≡ b → is_some (holds (record { event = e; rule = None } ∷ h) s d) ≡ cond b false (is_some (holds h s d))
unfolding holds
holds_closed h e sid desc after s d b k = ap (λ o. is_some (option_and_then (if_of s) o)) (held_grows h e d ∙ after d) ∙ closed_at s d sid desc (held h d) b k

-- one more description is held after an open
count_at : (h : History) (s : ℕ) (r : Record) (b : Bool) → opens (r ∷ h) ≡ opens h + 1 → ((d : ℕ) → d < opens h → is_some (holds (r ∷ h) s d) ≡ is_some (holds h s d)) → is_some (holds (r ∷ h) s (opens h)) ≡ b → held_count (r ∷ h) s ≡ cond b (held_count h s + 1) (held_count h s)
unfolding held_count
count_at h s r b n same e =
    let below : how_many_below (λ d. is_some (holds (r ∷ h) s d)) (opens h) ≡ how_many_below (λ d. is_some (holds h s d)) (opens h) = how_many_below_same _ _ (opens h) same in
    rw (n, add-one, e, below) refl

count_opened : (h : History) (e : Event) (asked : Opening) → opens (record { event = e; rule = None } ∷ h) ≡ opens h + 1 → ((d : ℕ) → held_after d e (opens h) (bound h) (creations h) (held h d) ≡ option_or (cond (eqb (opens h) d) (option_map (held_as asked) (opened h asked)) None) (held h d)) → (s : ℕ) → held_count (record { event = e; rule = None } ∷ h) s ≡ cond (eqb asked.session.0 s && is_some (opened h asked)) (held_count h s + 1) (held_count h s)
count_opened h e asked more after s = count_at h s _ (eqb asked.session.0 s && is_some (opened h asked)) more
    (λ d lt. holds_opened h e asked after s d ∙ rw (ne_eqb (opens h) d (λ (q : opens h ≡ d). absurd (omega arith))) refl)
    (holds_opened h e asked after s (opens h) ∙ rw (eq-eqb (opens h) (opens h) refl) refl)

-- one less after a close of what was held
count_closed : (h : History) (e : Event) (sid : Sid) (desc : Desc) → opens (record { event = e; rule = None } ∷ h) ≡ opens h → Closes h e sid desc → (s : ℕ) → held_count (record { event = e; rule = None } ∷ h) s ≡ cond (eqb sid.0 s && is_some (holds h s desc.0)) (held_count h s - 1) (held_count h s)
unfolding held_count
count_closed h e sid desc n after s = ap (how_many_below (λ d. is_some (holds (record { event = e; rule = None } ∷ h) s d))) n ∙ at (eqb sid.0 s) refl (is_some (holds h s desc.0)) refl where
  at : (b : Bool) → eqb sid.0 s ≡ b → (k : Bool) → is_some (holds h s desc.0) ≡ k → how_many_below (λ d. is_some (holds (record { event = e; rule = None } ∷ h) s d)) (opens h) ≡ cond (b && k) (held_count h s - 1) (held_count h s)
  at true q true k =
      let less : how_many_below (λ d. is_some (holds (record { event = e; rule = None } ∷ h) s d)) (opens h) + 1 ≡ held_count h s = how_many_below_less _ _ (opens h) desc.0 (holds_below h s desc.0 k) k (holds_closed h e sid desc after s desc.0 true (and_from _ _ q (eq-eqb _ _ refl))) (λ d ne. holds_closed h e sid desc after s d false (and_right _ _ (ne_eqb _ _ (λ r. ne (sym r))))) in
      omega arith
  at true q false k = how_many_below_same _ _ (opens h) (λ d lt. here d (eqb desc.0 d) refl) where
    here : (d : ℕ) (b : Bool) → eqb desc.0 d ≡ b → is_some (holds (record { event = e; rule = None } ∷ h) s d) ≡ is_some (holds h s d)
    here d true r =
        let same : desc.0 ≡ d = eqb-true _ _ r in
        let none : is_some (holds h s d) ≡ false = rw (← same) k in
        holds_closed h e sid desc after s d true (and_from _ _ q r) ∙ sym none
    here d false r = holds_closed h e sid desc after s d false (and_right _ _ r)
  at false q k r = how_many_below_same _ _ (opens h) (λ d lt. holds_closed h e sid desc after s d false (and_left _ _ q))

-- as many are held where each is held as before
count_kept : (h k : History) (s : ℕ) → opens k ≡ opens h → ((d : ℕ) → held k d ≡ held h d) → held_count k s ≡ held_count h s
unfolding held_count holds
count_kept h k s n same = ap (how_many_below (λ d. is_some (option_and_then (if_of s) (held k d)))) n ∙ how_many_below_same _ _ (opens h) (λ d lt. ap (λ o. is_some (option_and_then (if_of s) o)) (same d))

-- no numbers are of a kind that none is of
how_many_below_none : (f : ℕ → Bool) (n : ℕ) → ((d : ℕ) → f d ≡ false) → how_many_below f n ≡ 0
how_many_below_none f zero none = refl
how_many_below_none f (suc n) none = rw (none n) (how_many_below_none f n none)

-- after a hang-up a session holds nothing, and each other what it held
left_at : (s : ℕ) (sid : Sid) (w : Option Held) (b : Bool) → eqb sid.0 s ≡ b → is_some (option_and_then (if_of s) (unless (λ x. eqb sid.0 x.session.0) w)) ≡ cond b false (is_some (option_and_then (if_of s) w))
left_at s sid None true e = refl
left_at s sid None false e = refl
left_at s sid (Some x) b e = at (eqb sid.0 x.session.0) refl b e where
  at : (k : Bool) → eqb sid.0 x.session.0 ≡ k → (b : Bool) → eqb sid.0 s ≡ b → is_some (option_and_then (if_of s) (cond k None (Some x))) ≡ cond b false (is_some (if_of s x))
  at true t true e = refl
  at true t false e = rw (ne_eqb x.session.0 s (λ (q : x.session.0 ≡ s). let same : sid.0 ≡ x.session.0 = eqb-true _ _ t in let yes' : eqb sid.0 s ≡ true = eq-eqb _ _ (same ∙ q) in let no' : true ≡ false = sym yes' ∙ e in cc)) refl
  at false f true e = rw (ne_eqb x.session.0 s (λ (q : x.session.0 ≡ s). let same : sid.0 ≡ s = eqb-true _ _ e in let yes' : eqb sid.0 x.session.0 ≡ true = eq-eqb _ _ (same ∙ sym q) in let no' : true ≡ false = sym yes' ∙ f in cc)) refl
  at false f false e = refl

holds_left : (h : History) (sid : Sid) (s d : ℕ) (b : Bool) → eqb sid.0 s ≡ b → is_some (holds (record { event = Hangup sid; rule = None } ∷ h) s d) ≡ cond b false (is_some (holds h s d))
unfolding holds
holds_left h sid s d b e = ap (λ o. is_some (option_and_then (if_of s) o)) (held_grows h (Hangup sid) d) ∙ left_at s sid (held h d) b e

count_left : (h : History) (sid : Sid) (s : ℕ) → held_count (record { event = Hangup sid; rule = None } ∷ h) s ≡ cond (eqb sid.0 s) 0 (held_count h s)
unfolding held_count opens
count_left h sid s = at (eqb sid.0 s) refl where
  at : (b : Bool) → eqb sid.0 s ≡ b → how_many_below (λ d. is_some (holds (record { event = Hangup sid; rule = None } ∷ h) s d)) (opens h) ≡ cond b 0 (held_count h s)
  at true e = how_many_below_none _ (opens h) (λ d. holds_left h sid s d true e)
  at false e = how_many_below_same _ _ (opens h) (λ d lt. holds_left h sid s d false e)

count_quiet : (h : History) (e : Event) (s : ℕ) → opens (record { event = e; rule = None } ∷ h) ≡ opens h → ((d : ℕ) → held (record { event = e; rule = None } ∷ h) d ≡ unless (λ x. false) (held h d)) → held_count (record { event = e; rule = None } ∷ h) s ≡ held_count h s
count_quiet h e s n same = count_kept h _ s n (λ d. same d ∙ kept_all (held h d))

-- a give moves what its session holds to the taker, and leaves all else
abbrev pub moved : Sid → Desc → Sid → ℕ → Held → Held
moved sid desc taker d x = cond (eqb sid.0 x.session.0 && eqb desc.0 d) (record x { session = taker }) x

handed_at : (b : Bool) (x y : Held) → option_or (cond b (Some y) None) (cond b None (Some x)) ≡ Some (cond b y x)
handed_at true x y = refl
handed_at false x y = refl

pub held_given : (h : History) (sid taker : Sid) (desc : Desc) (d : ℕ) → held (record { event = Do sid (MqGive desc taker); rule = None } ∷ h) d ≡ option_map (moved sid desc taker d) (held h d)
held_given h sid taker desc d = held_grows h (Do sid (MqGive desc taker)) d ∙ at (held h d) where
  at : (w : Option Held) → option_or (hands_over d (Do sid (MqGive desc taker)) w) (unless (λ x. ends_held d x (Do sid (MqGive desc taker))) w) ≡ option_map (moved sid desc taker d) w
  at None = refl
  at (Some x) = handed_at (eqb sid.0 x.session.0 && eqb desc.0 d) x (record x { session = taker })

-- what was held and is its session's
mine_only : (s : ℕ) (w : Option Held) (y : Held) → option_and_then (if_of s) w ≡ Some y → (w ≡ Some y) × (y.session.0 ≡ s)
mine_only s None y k = absurd cc
mine_only s (Some x) y k = at (eqb x.session.0 s) refl k where
  at : (b : Bool) → eqb x.session.0 s ≡ b → cond b (Some x) None ≡ Some y → (Some x ≡ Some y) × (y.session.0 ≡ s)
  at true q j = let same : x ≡ y = cc in (j, ap (λ (z : Held). z.session.0) (sym same) ∙ eqb-true _ _ q)
  at false q j = absurd cc

pub holds_parts : (h : History) (s d : ℕ) (y : Held) → holds h s d ≡ Some y → (held h d ≡ Some y) × (y.session.0 ≡ s)
unfolding holds
holds_parts h s d y k = mine_only s (held h d) y k

-- the description that is given is the taker's
pub given_held : (h : History) (sid taker : Sid) (desc : Desc) (y : Held) → holds h sid.0 desc.0 ≡ Some y → held (record { event = Do sid (MqGive desc taker); rule = None } ∷ h) desc.0 ≡ Some (record y { session = taker })
given_held h sid taker desc y k =
    let was = holds_parts h sid.0 desc.0 y k in
    let here : eqb sid.0 y.session.0 ≡ true = eq-eqb sid.0 y.session.0 (sym was.1) in
    held_given h sid taker desc desc.0 ∙ ap (option_map (moved sid desc taker desc.0)) was.0 ∙ rw (here, eq-eqb desc.0 desc.0 refl) refl

-- each other is what it was
not_moved : (sid taker : Sid) (desc : Desc) (d : ℕ) (w : Option Held) → ((x : Held) → w ≡ Some x → (eqb sid.0 x.session.0 && eqb desc.0 d) ≡ false) → option_map (moved sid desc taker d) w ≡ w
not_moved sid taker desc d None off = refl
not_moved sid taker desc d (Some x) off = ap (λ b. Some (cond b (record x { session = taker }) x)) (off x refl)

pub other_held : (h : History) (sid taker : Sid) (desc : Desc) (d : ℕ) → eqb desc.0 d ≡ false → held (record { event = Do sid (MqGive desc taker); rule = None } ∷ h) d ≡ held h d
other_held h sid taker desc d other = held_given h sid taker desc d ∙ not_moved sid taker desc d (held h d) (λ x e. and_right _ _ other)

-- a give of what its session does not hold changes nothing
mine_there : (s : ℕ) (x : Held) → eqb s x.session.0 ≡ true → is_some (option_and_then (if_of s) (Some x)) ≡ true
mine_there s x e = let here : eqb x.session.0 s ≡ true = eq-eqb _ _ (sym (eqb-true _ _ e)) in rw here refl

pub unheld_stays : (h : History) (sid taker : Sid) (desc : Desc) (d : ℕ) → is_some (holds h sid.0 desc.0) ≡ false → held (record { event = Do sid (MqGive desc taker); rule = None } ∷ h) d ≡ held h d
unfolding holds
unheld_stays h sid taker desc d none = held_given h sid taker desc d ∙ not_moved sid taker desc d (held h d) (λ x e. at x e (eqb sid.0 x.session.0 && eqb desc.0 d) refl) where
  at : (x : Held) → held h d ≡ Some x → (b : Bool) → (eqb sid.0 x.session.0 && eqb desc.0 d) ≡ b → b ≡ false
  at x e true q =
      let parts = and_parts (eqb sid.0 x.session.0) (eqb desc.0 d) q in
      let same : desc.0 ≡ d = eqb-true _ _ parts.1 in
      let there : held h desc.0 ≡ Some x = ap (held h) same ∙ e in
      let mine : is_some (option_and_then (if_of sid.0) (held h desc.0)) ≡ true = ap (λ w. is_some (option_and_then (if_of sid.0) w)) there ∙ mine_there sid.0 x parts.0 in
      let wrong : true ≡ false = sym mine ∙ none in
      absurd cc
  at x e false q = refl

-- where one number below the limit is of the kind, there is one at least
how_many_below_some : (f : ℕ → Bool) (n k : ℕ) → k < n → f k ≡ true → 1 ≤ how_many_below f n
how_many_below_some f zero k lt on = absurd (omega arith)
how_many_below_some f (suc n) k lt on = at (f n) refl (λ below. how_many_below_some f n k below on) where
  at : (b : Bool) → f n ≡ b → (k < n → 1 ≤ how_many_below f n) → 1 ≤ cond b (how_many_below f n + 1) (how_many_below f n)
  at true e earlier = omega arith
  at false e earlier = earlier (other (cases_eq k n)) where
    other : (k ≡ n) ⊎ (k ≡ n → ⊥) → k < n
    other (inl same) = absurd (let wrong : true ≡ false = sym on ∙ ap f same ∙ e in cc)
    other (inr ne) = omega arith

-- what each session holds after a give
mine_is : (s : ℕ) (x : Held) → is_some (option_and_then (if_of s) (Some x)) ≡ eqb x.session.0 s
mine_is s x = mine (eqb x.session.0 s) x

taken_is : (h : History) (sid taker : Sid) (desc : Desc) (y : Held) (s : ℕ) → holds h sid.0 desc.0 ≡ Some y → is_some (holds (record { event = Do sid (MqGive desc taker); rule = None } ∷ h) s desc.0) ≡ eqb taker.0 s
unfolding holds
taken_is h sid taker desc y s k = ap (λ w. is_some (option_and_then (if_of s) w)) (given_held h sid taker desc y k) ∙ mine_is s (record y { session = taker })

giver_is : (h : History) (sid : Sid) (desc : Desc) (y : Held) (s : ℕ) → holds h sid.0 desc.0 ≡ Some y → is_some (holds h s desc.0) ≡ eqb sid.0 s
unfolding holds
giver_is h sid desc y s k =
    let was = holds_parts h sid.0 desc.0 y k in
    ap (λ w. is_some (option_and_then (if_of s) w)) was.0 ∙ mine_is s y ∙ ap (λ n. eqb n s) was.1

other_is : (h : History) (sid taker : Sid) (desc : Desc) (s d : ℕ) → eqb desc.0 d ≡ false → is_some (holds (record { event = Do sid (MqGive desc taker); rule = None } ∷ h) s d) ≡ is_some (holds h s d)
unfolding holds
other_is h sid taker desc s d other = ap (λ w. is_some (option_and_then (if_of s) w)) (other_held h sid taker desc d other)

each_is : (f g : ℕ → Bool) (n k : ℕ) → f k ≡ g k → ((d : ℕ) → eqb k d ≡ false → f d ≡ g d) → how_many_below f n ≡ how_many_below g n
each_is f g n k here others = how_many_below_same f g n (λ d lt. at d (eqb k d) refl) where
  at : (d : ℕ) (b : Bool) → eqb k d ≡ b → f d ≡ g d
  at d true e = let same : k ≡ d = eqb-true _ _ e in subst (λ (i : ℕ). f i ≡ g i) same here
  at d false e = others d e

-- one moves from the session to the taker
count_moves : (f g : ℕ → Bool) (n k : ℕ) (gives' takes : Bool) → k < n → f k ≡ gives' → g k ≡ takes → ((d : ℕ) → eqb k d ≡ false → g d ≡ f d) → how_many_below g n ≡ count_moved gives' takes (how_many_below f n)
count_moves f g n k true true lt on on' others =
    let same : how_many_below g n ≡ how_many_below f n = each_is g f n k (on' ∙ sym on) others in
    let some = how_many_below_some f n k lt on in
    omega arith
count_moves f g n k true false lt on off others =
    let less : how_many_below g n + 1 ≡ how_many_below f n = how_many_below_less f g n k lt on off (λ d ne. others d (ne_eqb _ _ (λ r. ne (sym r)))) in
    omega arith
count_moves f g n k false true lt off on others = sym (how_many_below_less g f n k lt on off (λ d ne. sym (others d (ne_eqb _ _ (λ r. ne (sym r))))))
count_moves f g n k false false lt off off' others = each_is g f n k (off' ∙ sym off) others

count_given : (h : History) (sid taker : Sid) (desc : Desc) (s : ℕ) → held_count (record { event = Do sid (MqGive desc taker); rule = None } ∷ h) s ≡ cond (is_some (holds h sid.0 desc.0)) (count_moved (eqb sid.0 s) (eqb taker.0 s) (held_count h s)) (held_count h s)
unfolding held_count opens
count_given h sid taker desc s = at (holds h sid.0 desc.0) refl where
  at : (w : Option Held) → holds h sid.0 desc.0 ≡ w → held_count (record { event = Do sid (MqGive desc taker); rule = None } ∷ h) s ≡ cond (is_some w) (count_moved (eqb sid.0 s) (eqb taker.0 s) (held_count h s)) (held_count h s)
  at None k = count_kept h _ s refl (λ d. unheld_stays h sid taker desc d (ap is_some k))
  at (Some y) k = count_moves (λ d. is_some (holds h s d)) (λ d. is_some (holds (record { event = Do sid (MqGive desc taker); rule = None } ∷ h) s d)) (opens h) desc.0 (eqb sid.0 s) (eqb taker.0 s)
      (holds_below h sid.0 desc.0 (ap is_some k)) (giver_is h sid desc y s k) (taken_is h sid taker desc y s k) (λ d other. other_is h sid taker desc s d other)

pub count_grows : (h : History) (e : Event) (s : ℕ) → held_count (record { event = e; rule = None } ∷ h) s ≡ held_count_after s e (bound h) (creations h) (holds h) (held_count h s)
unfolding opens
count_grows h (Hello found) s = count_quiet h (Hello found) s refl (held_grows h (Hello found))
count_grows h (Do sid (Umask mode)) s = count_quiet h (Do sid (Umask mode)) s refl (held_grows h (Do sid (Umask mode)))
count_grows h (Do sid (MqOpen asked)) s = count_opened h (Do sid (MqOpen asked)) (queue_opening sid asked) refl (λ d. refl) s
count_grows h (Do sid (MqClose desc)) s = count_closed h (Do sid (MqClose desc)) sid desc refl (λ d. refl) s
count_grows h (Do sid (SemOpen asked)) s = count_opened h (Do sid (SemOpen asked)) (semaphore_opening sid asked) refl (λ d. refl) s
count_grows h (Do sid (SemClose desc)) s = count_closed h (Do sid (SemClose desc)) sid desc refl (λ d. refl) s
count_grows h (Do sid (MqSend desc priority bytes)) s = count_quiet h (Do sid (MqSend desc priority bytes)) s refl (held_grows h (Do sid (MqSend desc priority bytes)))
count_grows h (Do sid (MqReceive desc room)) s = count_quiet h (Do sid (MqReceive desc room)) s refl (held_grows h (Do sid (MqReceive desc room)))
count_grows h (Do sid (MqGetattr desc)) s = count_quiet h (Do sid (MqGetattr desc)) s refl (held_grows h (Do sid (MqGetattr desc)))
count_grows h (Do sid (MqSetattr desc nonblock)) s = count_quiet h (Do sid (MqSetattr desc nonblock)) s refl (held_grows h (Do sid (MqSetattr desc nonblock)))
count_grows h (Do sid (MqNotify desc on)) s = count_quiet h (Do sid (MqNotify desc on)) s refl (held_grows h (Do sid (MqNotify desc on)))
count_grows h (Do sid (MqGive desc taker)) s = count_given h sid taker desc s
count_grows h (Do sid (MqUnlink name)) s = count_quiet h (Do sid (MqUnlink name)) s refl (held_grows h (Do sid (MqUnlink name)))
count_grows h (Do sid (SemUnlink name)) s = count_quiet h (Do sid (SemUnlink name)) s refl (held_grows h (Do sid (SemUnlink name)))
count_grows h (Do sid (SemPost desc)) s = count_quiet h (Do sid (SemPost desc)) s refl (held_grows h (Do sid (SemPost desc)))
count_grows h (Do sid (SemWait desc)) s = count_quiet h (Do sid (SemWait desc)) s refl (held_grows h (Do sid (SemWait desc)))
count_grows h (Do sid (SemTryWait desc)) s = count_quiet h (Do sid (SemTryWait desc)) s refl (held_grows h (Do sid (SemTryWait desc)))
count_grows h (Do sid (SemGetvalue desc)) s = count_quiet h (Do sid (SemGetvalue desc)) s refl (held_grows h (Do sid (SemGetvalue desc)))
count_grows h (Do sid (ListNames family start count)) s = count_quiet h (Do sid (ListNames family start count)) s refl (held_grows h (Do sid (ListNames family start count)))
count_grows h (Do sid (StatName target)) s = count_quiet h (Do sid (StatName target)) s refl (held_grows h (Do sid (StatName target)))
count_grows h (Do sid (Chmod mode target)) s = count_quiet h (Do sid (Chmod mode target)) s refl (held_grows h (Do sid (Chmod mode target)))
count_grows h (Do sid (Chown owner group target)) s = count_quiet h (Do sid (Chown owner group target)) s refl (held_grows h (Do sid (Chown owner group target)))
count_grows h (Do sid (SetLimit uid bytes)) s = count_quiet h (Do sid (SetLimit uid bytes)) s refl (held_grows h (Do sid (SetLimit uid bytes)))
count_grows h (Do sid Interrupt) s = count_quiet h (Do sid Interrupt) s refl (held_grows h (Do sid Interrupt))
count_grows h (Do sid (Audit start count)) s = count_quiet h (Do sid (Audit start count)) s refl (held_grows h (Do sid (Audit start count)))
count_grows h (Do sid (MqTimedSend desc priority until bytes)) s = count_quiet h (Do sid (MqTimedSend desc priority until bytes)) s refl (held_grows h (Do sid (MqTimedSend desc priority until bytes)))
count_grows h (Do sid (MqTimedReceive desc room until)) s = count_quiet h (Do sid (MqTimedReceive desc room until)) s refl (held_grows h (Do sid (MqTimedReceive desc room until)))
count_grows h (Do sid (SemTimedWait desc until)) s = count_quiet h (Do sid (SemTimedWait desc until)) s refl (held_grows h (Do sid (SemTimedWait desc until)))
count_grows h (Hangup sid) s = count_left h sid s
count_grows h (Tick moment) s = count_quiet h (Tick moment) s refl (held_grows h (Tick moment))
