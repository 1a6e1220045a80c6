-- Why links aren't read any more.
use Rattle.std.proofs.Common.{◌≡◌, ◌⊎◌, inl, inr, ℕ, Bool, true, false, ◌||◌, ◌&&◌, List, ◌++◌, Option, Some, None, refl, sym, ap, subst, ◌∙◌}
use Rattle.std.specs.Prelude.{unwrap_or}
use Rattle.ipc_hub.specs.Laws.{Call}
use Rattle.ipc_loop.specs.declared.ending.Ending.{Ending}
use Rattle.ipc_loop.specs.declared.ending.Ending.TheVariants.{NoMemory}
use Rattle.ipc_loop.specs.Moves.{Moved, closed_as}
use Rattle.ipc_loop.specs.Ports.{Port}
use Rattle.ipc_loop.specs.Serving.{is_shown, may_drop, IsTold, HasWhy, DropsForAReason}
use Rattle.ipc_loop.proofs.MoveLemmas.{first_of, closed_both, shown_both, or_left, or_right}

abbrev pub Why : Type 0
Why = Option (Option Ending)

-- nothing happened to the link
pub why_same : (shown : Ending → Bool) (w : Why) (closed : Option Ending) → closed ≡ None → HasWhy shown w closed w
why_same shown None closed none = (refl, none)
why_same shown (Some None) closed none = inl (refl, none)
why_same shown (Some (Some e)) closed none = (e, (inl refl, inl (refl, none)))

and_or_left : (d a b c : Bool) → c ≡ (a || b) → (d && a) ≡ true → (d && c) ≡ true
and_or_left true a b c e on = or_left a b c e on
and_or_left false a b c e on = absurd cc

and_or_right : (d a b c : Bool) → c ≡ (a || b) → (d && b) ≡ true → (d && c) ≡ true
and_or_right true a b c e on = or_right a b c e on
and_or_right false a b c e on = absurd cc

-- what was told stays told, where nothing more is told
told_on : (e : Ending) (w w' : Why) (c c' : Option Ending) → IsTold e w c → w' ≡ w → c' ≡ c → IsTold e w' c'
told_on e w w' c c' (inl t) f g = inl (f ∙ t.0, g ∙ t.1)
told_on e w w' c c' (inr t) f g = inr (f ∙ t.0, g ∙ t.1)

pub first_none : (c d : Option Ending) → c ≡ None → first_of c d ≡ d
first_none c d e = ap (λ (x : Option Ending). first_of x d) e

pub first_some : (c d : Option Ending) (e : Ending) → c ≡ Some e → first_of c d ≡ Some e
first_some c d e is = ap (λ (x : Option Ending). first_of x d) is

and_last : (x y : Bool) → (x && y) ≡ true → y ≡ true
and_last true y e = e
and_last false y e = absurd cc

-- a reason that was told stays, or another comes in its place
told_more : (t : Ending → Bool) (P : Ending → Type 0) (e : Ending) (d all : Option Ending) (w : Why) → all ≡ d → P e → ((f : Ending) → (may_drop f && t f) ≡ true → P f) → HasWhy t (Some (Some e)) d w → (f : Ending) × (P f × IsTold f w all)
told_more t P e d all w is first other (f, (inl same, later)) = (f, (subst P (sym same) first, told_on f w w d all later refl is))
told_more t P e d all w is first other (f, (inr drops, later)) = (f, (other f drops, told_on f w w d all later refl is))

told_both : (t : Ending → Bool) (P : Ending → Type 0) (e : Ending) (c d all : Option Ending) (w₁ w₂ : Why) → all ≡ first_of c d → P e → ((f : Ending) → (may_drop f && t f) ≡ true → P f) → IsTold e w₁ c → HasWhy t w₁ d w₂ → (f : Ending) × (P f × IsTold f w₂ all)
told_both t P e c d all w₁ w₂ is first other (inl here) b = told_more t P e d all w₂ (is ∙ first_none c d here.1) first other (subst (λ (w : Why). HasWhy t w d w₂) here.0 b)
told_both t P e c d all w₁ w₂ is first other (inr gone) b =
    let next : (w₂ ≡ None) × (d ≡ None) = subst (λ (w : Why). HasWhy t w d w₂) gone.0 b in
    (e, (first, inr (next.0, is ∙ first_some c d e gone.1)))

-- one moment after another
pub why_both : (s t u : Ending → Bool) (w₀ w₁ w₂ : Why) (c d all : Option Ending) → ((e : Ending) → u e ≡ (s e || t e)) → all ≡ first_of c d → HasWhy s w₀ c w₁ → HasWhy t w₁ d w₂ → HasWhy u w₀ all w₂
why_both s t u None w₁ w₂ c d all both is a b =
    let next : (w₂ ≡ None) × (d ≡ None) = subst (λ (w : Why). HasWhy t w d w₂) a.0 b in
    (next.0, is ∙ first_none c d a.1 ∙ next.1)
why_both s t u (Some None) w₁ w₂ c d all both is (inl a) b = at (subst (λ (w : Why). HasWhy t w d w₂) a.0 b) where
  at : HasWhy t (Some None) d w₂ → HasWhy u (Some None) all w₂
  at (inl still) = inl (still.0, is ∙ first_none c d a.1 ∙ still.1)
  at (inr told) = inr (told.0, (or_right (s told.0) (t told.0) (u told.0) (both told.0) told.1.0, told_on told.0 w₂ w₂ d all told.1.1 refl (is ∙ first_none c d a.1)))
why_both s t u (Some None) w₁ w₂ c d all both is (inr (e, (on, told))) b =
    inr (told_both t (λ (f : Ending). u f ≡ true) e c d all w₁ w₂ is (or_left (s e) (t e) (u e) (both e) on) (λ f drops. and_last (may_drop f) (u f) (and_or_right (may_drop f) (s f) (t f) (u f) (both f) drops)) told b)
why_both s t u (Some (Some before)) w₁ w₂ c d all both is (e, (inl same, told)) b =
    told_both t (λ (f : Ending). (f ≡ before) ⊎ ((may_drop f && u f) ≡ true)) e c d all w₁ w₂ is (inl same) (λ f drops. inr (and_or_right (may_drop f) (s f) (t f) (u f) (both f) drops)) told b
why_both s t u (Some (Some before)) w₁ w₂ c d all both is (e, (inr drops, told)) b =
    told_both t (λ (f : Ending). (f ≡ before) ⊎ ((may_drop f && u f) ≡ true)) e c d all w₁ w₂ is (inr (and_or_left (may_drop e) (s e) (t e) (u e) (both e) drops)) (λ f more. inr (and_or_right (may_drop f) (s f) (t f) (u f) (both f) more)) told b

-- of a link, and of what was done meanwhile
pub whys_both : (i : ℕ) (cs ds : List Call) (xs ys : List Moved) (w₀ w₁ w₂ : Why) → HasWhy (is_shown i cs xs) w₀ (closed_as i xs) w₁ → HasWhy (is_shown i ds ys) w₁ (closed_as i ys) w₂ → HasWhy (is_shown i (cs ++ ds) (xs ++ ys)) w₀ (closed_as i (xs ++ ys)) w₂
whys_both i cs ds xs ys w₀ w₁ w₂ a b = why_both (is_shown i cs xs) (is_shown i ds ys) (is_shown i (cs ++ ds) (xs ++ ys)) w₀ w₁ w₂ (closed_as i xs) (closed_as i ys) (closed_as i (xs ++ ys)) (λ e. shown_both i cs ds xs ys e) (closed_both i xs ys) a b

-- a link that is closed tells why its port isn't read any more; that memory ran out, where it was read
pub why_closed : (shown : Ending → Bool) (ending : Option Ending) → shown NoMemory ≡ true → HasWhy shown (Some ending) (Some (unwrap_or ending NoMemory)) None
why_closed shown None on = inr (NoMemory, (on, inr (refl, refl)))
why_closed shown (Some e) on = (e, (inl refl, inr (refl, refl)))

-- a link that was closed, and one that is closed no more
pub why_shut : (shown : Ending → Bool) (w w' : Why) (closed : Option Ending) (e : Ending) → HasWhy shown w closed w' → closed ≡ Some e → w' ≡ None
why_shut shown None w' closed e (now, none) is = now
why_shut shown (Some None) w' closed e (inl still) is = let wrong : None ≡ Some e = sym still.1 ∙ is in absurd cc
why_shut shown (Some None) w' closed e (inr told) is = shut told.0 told.1.1 where
  shut : (f : Ending) → IsTold f w' closed → w' ≡ None
  shut f (inl here) = let wrong : None ≡ Some e = sym here.1 ∙ is in absurd cc
  shut f (inr gone) = gone.0
why_shut shown (Some (Some before)) w' closed e told is = shut told.0 told.1.1 where
  shut : (f : Ending) → IsTold f w' closed → w' ≡ None
  shut f (inl here) = let wrong : None ≡ Some e = sym here.1 ∙ is in absurd cc
  shut f (inr gone) = gone.0

pub why_once : (shown : Ending → Bool) (w' : Why) (closed : Option Ending) (e : Ending) → HasWhy shown None closed w' → closed ≡ Some e → ⊥
why_once shown w' closed e (now, none) is = let wrong : None ≡ Some e = sym none ∙ is in absurd cc

and_first : (x y : Bool) → (x && y) ≡ true → x ≡ true
and_first true y e = refl
and_first false y e = absurd cc

-- where bytes may be dropped for what was told, they may for what is told later
later_drops : (shown : Ending → Bool) (before e : Ending) → (e ≡ before) ⊎ ((may_drop e && shown e) ≡ true) → may_drop before ≡ true → may_drop e ≡ true
later_drops shown before e (inl same) on = ap may_drop same ∙ on
later_drops shown before e (inr drops) on = and_first (may_drop e) (shown e) drops

pub why_drops : (shown : Ending → Bool) (w' : Why) (closed : Option Ending) (before e : Ending) → HasWhy shown (Some (Some before)) closed w' → closed ≡ Some e → may_drop before ≡ true → may_drop e ≡ true
why_drops shown w' closed before e (f, (why, told)) is on = at told where
  at : IsTold f w' closed → may_drop e ≡ true
  at (inl here) = let wrong : None ≡ Some e = sym here.1 ∙ is in absurd cc
  at (inr gone) = let same : Some f ≡ Some e = sym gone.1 ∙ is in let is' : f ≡ e = cc in subst (λ (x : Ending). may_drop x ≡ true) is' (later_drops shown before f why on)

-- the first reason is kept
pub why_ends : (shown : Ending → Bool) (before after : Option Ending) (e : Ending) → after ≡ Some (unwrap_or before e) → shown e ≡ true → HasWhy shown (Some before) None (Some after)
why_ends shown None after e is on = inr (e, (on, inl (ap (λ (x : Option Ending). Some x) is, refl)))
why_ends shown (Some before) after e is on = (before, (inl refl, inl (ap (λ (x : Option Ending). Some x) is, refl)))

-- one for which bytes may be dropped stands before it
pub why_cuts : (shown : Ending → Bool) (before after : Option Ending) (e : Ending) → after ≡ Some e → may_drop e ≡ true → shown e ≡ true → HasWhy shown (Some before) None (Some after)
why_cuts shown None after e is drops on = inr (e, (on, inl (ap (λ (x : Option Ending). Some x) is, refl)))
why_cuts shown (Some before) after e is drops on = (e, (inr (ap (λ (b : Bool). b && shown e) drops ∙ on), inl (ap (λ (x : Option Ending). Some x) is, refl)))

-- nothing ended the link
pub why_stays : (shown : Ending → Bool) (before after : Option Ending) → after ≡ before → HasWhy shown (Some before) None (Some after)
why_stays shown before after is = subst (λ (x : Option Ending). HasWhy shown (Some before) None (Some x)) (sym is) (why_same shown (Some before) None refl)

-- the same, where more is shown
pub why_more : (s t : Ending → Bool) (w w' : Why) (closed : Option Ending) → ((e : Ending) → s e ≡ true → t e ≡ true) → HasWhy s w closed w' → HasWhy t w closed w'
why_more s t None w' closed more why = why
why_more s t (Some None) w' closed more (inl still) = inl still
why_more s t (Some None) w' closed more (inr (e, (on, told))) = inr (e, (more e on, told))
why_more s t (Some (Some before)) w' closed more (e, (inl same, told)) = (e, (inl same, told))
why_more s t (Some (Some before)) w' closed more (e, (inr drops, told)) = (e, (inr (at (may_drop e) drops), told)) where
  at : (b : Bool) → (b && s e) ≡ true → (b && t e) ≡ true
  at true f = more e f
  at false f = absurd cc

-- a port that keeps what is left tells why bytes are dropped, where it did before
pub drops_same : (shown : Ending → Bool) (p p' : Port) → p'.left ≡ p.left → HasWhy shown (Some p.ending) None (Some p'.ending) → DropsForAReason (Some p) → DropsForAReason (Some p')
drops_same shown p p' left why drops none = at p.ending (drops (sym left ∙ none)) why where
  at : (x : Option Ending) → (e : Ending) × ((x ≡ Some e) × (may_drop e ≡ true)) → HasWhy shown (Some x) None (Some p'.ending) → (e : Ending) × ((p'.ending ≡ Some e) × (may_drop e ≡ true))
  at None (e, (is, on)) w = absurd cc
  at (Some before) (e, (is, on)) (f, (stands, inl here)) = let same : before ≡ e = cc in let now : p'.ending ≡ Some f = cc in (f, (now, later_drops shown before f stands (ap may_drop same ∙ on)))
  at (Some before) (e, (is, on)) (f, (stands, inr gone)) = let wrong : Some p'.ending ≡ None = gone.0 in absurd cc

pub drops_cut : (p p' : Port) (e : Ending) → p'.ending ≡ Some e → may_drop e ≡ true → DropsForAReason (Some p) → DropsForAReason (Some p')
drops_cut p p' e is on drops none = (e, (is, on))
