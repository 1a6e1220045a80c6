-- Steps in portions.
use Rattle.std.proofs.Common.{◌≡◌, ◌≢◌, ◌⊎◌, inl, inr, ◌≤◌, arith, ℕ, Bool, true, false, eqb, cond, List, [], ◌∷◌, ◌++◌, length, Option, Some, None, refl, sym, ap, subst, ◌∙◌}
use Rattle.std.specs.Prelude.{max, Result, Ok, Err, IfOk, OnOk, OnErr}
use Rattle.std.proofs.lemmas.Bool.{eqb-true}
use Rattle.std.proofs.lemmas.List.{append-nil}
use Rattle.ipc_terms.specs.declared.call.Answer.{Answer}
use Rattle.ipc_hub.specs.Marking.{is_set}
use Rattle.ipc_hub.specs.Hub.{Hub, Marks, Feeds, Takes, is_marked, spell_answers, untaken_at}
use Rattle.ipc_hub.specs.declared.fed.Fed.{Fed}
use Rattle.ipc_hub.specs.declared.fed.HubFault.{HubFault}
use Rattle.ipc_loop.specs.Moves.{Moved}
use Rattle.ipc_loop.specs.Ports.{Port, is_all}
use Rattle.ipc_loop.specs.Portions.{HasAll, Collects, OthersAreMarked, StepsAndCollects, StepsPortion, AreBehind, AddsSpelled, AddsFew, IsUnder, KeepsBound}
use Rattle.ipc_loop.specs.declared.ending.Ending.TheVariants.{NoMemory}
use Rattle.ipc_loop.specs.Serving.{PassesOn, is_shown, Answers, KeepsPortMarks, ServesPort, Writes}
use Rattle.ipc_loop.proofs.MoveLemmas.{go_nowhere, adds_nothing}
use Rattle.ipc_loop.proofs.PassingLemmas.{passes_end, passes_stop}
use Rattle.ipc_loop.proofs.OwingLemmas.{unmarked_before, takes_spelled}
use Rattle.ipc_loop.proofs.ServingLemmas.{gave_serve, writes_serve}
use Rattle.ipc_loop.proofs.WhyLemmas.{why_stays, why_cuts, drops_cut}

-- ---- who is marked

others_both : (k : ℕ) (a b c : Hub) → OthersAreMarked k a b → OthersAreMarked k b c → OthersAreMarked k a c
others_both k a b c x y i other now =
    let late = y i other now in
    let early = x i other late.0 in
    (early.0, late.1 ∙ early.1)

same_others : (k : ℕ) (h : Hub) → OthersAreMarked k h h
same_others k h i other now = (now, refl)

marks_others : (k : ℕ) (h h' : Hub) → Marks h h' → OthersAreMarked k h h'
marks_others k h h' marks i other now = (unmarked_before h h' i marks now, marks.silent i now)

pub collects_steps : (k : ℕ) (h h' : Hub) (p : Port) → Collects k h h' p → StepsAndCollects k h h' p
collects_steps k h h' p c = record { all = c.all; others = λ i other now. (ap (λ (flags : List Bool). is_set flags i) (sym c.marks) ∙ now, c.others i other) }

-- a portion, and what it was answered
pub portion_collects : (k most : ℕ) (h h₁ h₂ : Hub) (p p₁ p₂ : Port) → StepsPortion k most h p h₁ p₁ → Collects k h₁ h₂ p₂ → StepsAndCollects k h h₂ p₂
portion_collects k most h h₁ h₂ p p₁ p₂ s c = record { all = c.all; others = others_both k h h₁ h₂ s.others (collects_steps k h₁ h₂ p₂ c).others }

pub steps_both : (k : ℕ) (a b c : Hub) (p q : Port) → StepsAndCollects k a b p → StepsAndCollects k b c q → StepsAndCollects k a c q
steps_both k a b c p q x y = record { all = y.all; others = others_both k a b c x.others y.others }

pub same_steps : (k : ℕ) (h : Hub) (p : Port) → HasAll k h p → StepsAndCollects k h h p
same_steps k h p all = record { all = all; others = same_others k h }

-- a port that wrote still has all
pub wrote_all : (k : ℕ) (h : Hub) (m m' : Option (List Moved)) (p p' : Port) → Writes k m m' p [] p' → HasAll k h p → HasAll k h p'
wrote_all k h m m' p p' w (inl none) = inl (passes_stop p.left p'.left [] w.took w.left none)
wrote_all k h m m' p p' w (inr empty) = inr empty

answered_all : (k : ℕ) (h : Hub) (p : Port) → HasAll k h p → (untaken_at h k ≡ []) ⊎ (p.left ≢ Some [])
answered_all k h p (inl none) = inr (λ (q : p.left ≡ Some []). let wrong : None ≡ Some [] = sym none ∙ q in absurd cc)
answered_all k h p (inr empty) = inl empty

pub steps_keep : (k : ℕ) (h h' : Hub) (p p' : Port) → StepsAndCollects k h h' p' → KeepsPortMarks k h p h' p'
steps_keep k h h' p p' s others i before now port e = at (eqb k i) refl (others i) before e where
  at : (here : Bool) → eqb k i ≡ here → (o : Option Port) → (is_marked h i ≡ false → (q : Port) → cond here (Some p) o ≡ Some q → (untaken_at h i ≡ []) ⊎ (q.left ≢ Some [])) → cond here (Some p') o ≡ Some port → (untaken_at h' i ≡ []) ⊎ (port.left ≢ Some [])
  at true is o f g =
      let same : p' ≡ port = cc in
      subst (λ (q : Port). (untaken_at h' i ≡ []) ⊎ (q.left ≢ Some [])) same (subst (λ (j : ℕ). (untaken_at h' j ≡ []) ⊎ (p'.left ≢ Some [])) (eqb-true k i is) (answered_all k h' p' s.all))
  at false is o f g = elsewhere (s.others i is now) (f (s.others i is now).0 port g) where
    elsewhere : (is_marked h i ≡ false) × (untaken_at h' i ≡ untaken_at h i) → (untaken_at h i ≡ []) ⊎ (port.left ≢ Some []) → (untaken_at h' i ≡ []) ⊎ (port.left ≢ Some [])
    elsewhere silent (inl none) = inl (silent.1 ∙ none)
    elsewhere silent (inr more) = inr more

-- a port that took all wrote what it could
pub wrote_answers : (k : ℕ) (h h' : Hub) (m m' : Option (List Moved)) (p p' : Port) → Collects k h h' p → Writes k m m' p [] p' → Answers k h h' p'
wrote_answers k h h' m m' p p' c w = record { answered = answered_all k h' p' (wrote_all k h' m m' p p' w c.all); others = c.others; marks = c.marks }

not_all : (left : Option (List ℕ)) → is_all left ≡ false → left ≢ Some []
not_all left e q = let wrong : true ≡ false = ap is_all (sym q) ∙ e in absurd cc

-- bytes are left, and nothing was taken
pub left_answers : (k : ℕ) (h : Hub) (p : Port) → is_all p.left ≡ false → Answers k h h p
left_answers k h p e = record { answered = inr (not_all p.left e); others = λ i other. refl; marks = refl }

-- ---- portions

pub same_portion : (k most : ℕ) (h : Hub) (p p' : Port) → p'.left ≡ p.left → StepsPortion k most h p h p'
same_portion k most h p p' same = record { few = omega arith; others = same_others k h; left = same }

pub fed_portion : (k most : ℕ) (h h' : Hub) (p p' : Port) (piece : List ℕ) (r : Result Fed HubFault) → IfOk r (λ fed. Feeds h k piece fed h') → OnOk r (length (untaken_at h' k) ≤ max (length (untaken_at h k)) most) → OnErr r (h' ≡ h) → p'.left ≡ p.left → StepsPortion k most h p h' p'
fed_portion k most h h' p p' piece (Ok fed) ok few err left = record { few = few; others = marks_others k h h' ok.marks; left = left }
fed_portion k most h h' p p' piece (Err fault) ok few err left = subst (λ (x : Hub). StepsPortion k most h p x p') (sym err) (same_portion k most h p p' left)

-- ---- what is taken

none_left_of : {A : Type 0} (xs : List A) → length xs ≡ 0 → xs ≡ []
none_left_of [] e = refl
none_left_of (x ∷ xs) e = absurd cc

pub none_untaken : (k : ℕ) (h : Hub) → length (untaken_at h k) ≡ 0 → untaken_at h k ≡ []
none_untaken k h e = none_left_of (untaken_at h k) e

pub adds_none : (answers : List Answer) (left : Option (List ℕ)) → answers ≡ [] → AddsSpelled answers left left
adds_none answers None e = tt
adds_none answers (Some bytes) e = record { before = bytes; last = []; was = refl; spelled = ap spell_answers e; whole = sym (append-nil bytes) }

pub adds_to_none : (answers : List Answer) (left left' : Option (List ℕ)) → left' ≡ None → AddsSpelled answers left left'
adds_to_none answers left left' e = subst (λ (x : Option (List ℕ)). AddsSpelled answers left x) (sym e) tt

pub same_collects : (k : ℕ) (h : Hub) (p : Port) → HasAll k h p → Collects k h h p
same_collects k h p all = record { all = all; others = λ i other. refl; marks = refl }

pub cut_left : (p : Port) (is_cut : Bool) (x : Option (List ℕ)) → cond is_cut None x ≡ p.left → is_cut ≡ true → p.left ≡ None
cut_left p is_cut x e cut = sym e ∙ ap (λ (b : Bool). cond b None x) cut

pub uncut_left : (p : Port) (is_cut : Bool) (x : Option (List ℕ)) → cond is_cut None x ≡ p.left → is_cut ≡ false → p.left ≡ x
uncut_left p is_cut x e uncut = sym e ∙ ap (λ (b : Bool). cond b None x) uncut

pub behind_left : (is_cut : Bool) (left bytes left' : List ℕ) → is_cut ≡ false → left' ≡ left ++ bytes → cond is_cut None (Some left') ≡ Some (left ++ bytes)
behind_left is_cut left bytes left' uncut e = ap (λ (b : Bool). cond b None (Some left')) uncut ∙ ap (λ (xs : List ℕ). Some xs) e

-- the hub gave these bytes, which stand behind what was left
pub took_serve : (k : ℕ) (h h' : Hub) (m : Option (List Moved)) (p p' : Port) (left bytes : List ℕ) → Takes h k bytes h' → p.left ≡ Some left → p'.left ≡ Some (left ++ bytes) → p'.ending ≡ p.ending → ServesPort k h m p h' m p'
took_serve k h h' m p p' left bytes takes before behind ending = gave_serve k h h' m m p p' bytes takes (record {
  took = [];
  added = adds_nothing m m k (go_nowhere m);
  fails = λ e. absurd cc;
  refuses = λ e. absurd cc;
  left = subst (λ (x : Option (List ℕ)). PassesOn x bytes [] p'.left) (sym before) (subst (λ (x : Option (List ℕ)). PassesOn (Some left) bytes [] x) (sym behind) refl);
  why = why_stays (is_shown k [] []) p.ending p'.ending ending;
  drops = λ before none. let wrong : Some (left ++ bytes) ≡ None = sym behind ∙ none in absurd cc;
})

pub took_spelled : (k : ℕ) (h h' : Hub) (left bytes : List ℕ) (was now : Option (List ℕ)) → Takes h k bytes h' → was ≡ Some left → now ≡ Some (left ++ bytes) → AddsSpelled (untaken_at h k) was now
took_spelled k h h' left bytes was now takes before behind = subst (λ (x : Option (List ℕ)). AddsSpelled (untaken_at h k) was x) (sym behind) (record { before = left; last = bytes; was = before; spelled = takes_spelled h h' k bytes takes; whole = refl })

-- the link is cut, since there was no memory for what was answered
pub cut_serve : (k : ℕ) (h h' : Hub) (m : Option (List Moved)) (p p' : Port) → h' ≡ h → p'.left ≡ None → p'.ending ≡ Some NoMemory → ServesPort k h m p h' m p'
cut_serve k h h' m p p' same cut is = subst (λ (x : Hub). ServesPort k h m p x m p') (sym same) (writes_serve k h m m p p' (record {
  took = [];
  added = adds_nothing m m k (go_nowhere m);
  fails = λ e. absurd cc;
  refuses = λ e. absurd cc;
  left = subst (λ (x : Option (List ℕ)). PassesOn p.left [] [] x) (sym cut) (passes_end p.left);
  why = why_cuts (is_shown k [] []) p.ending p'.ending NoMemory is refl refl;
  drops = drops_cut p p' NoMemory is refl;
}))

pub cut_collects : (k : ℕ) (h h' : Hub) (p' : Port) → h' ≡ h → p'.left ≡ None → Collects k h h' p'
cut_collects k h h' p' same cut = subst (λ (x : Hub). Collects k h x p') (sym same) (same_collects k h p' (inl cut))

-- ---- the bound of a turn

within : (answers : List Answer) (was most : ℕ) → was ≡ 0 → most ≤ 9 → length answers ≤ max was most → length answers ≤ 9
within answers was most none few le = omega (arith, none, few, le)

pub portion_adds : (k most : ℕ) (h h₁ : Hub) (p p₁ p₂ : Port) → HasAll k h p → most ≤ 9 → StepsPortion k most h p h₁ p₁ → AddsSpelled (untaken_at h₁ k) p₁.left p₂.left → AddsFew 9 p.left p₂.left
portion_adds k most h h₁ p p₁ p₂ all few s adds = at p₂.left adds where
  spelled : (bytes : List ℕ) → HasAll k h p → AreBehind (untaken_at h₁ k) p₁.left bytes → AddsFew 9 p.left (Some bytes)
  spelled bytes (inl none) b = let wrong : None ≡ Some b.before = sym none ∙ sym s.left ∙ b.was in absurd cc
  spelled bytes (inr empty) b = (untaken_at h₁ k, within (untaken_at h₁ k) _ most (ap (λ (xs : List Answer). length xs) empty) few s.few, record { before = b.before; last = b.last; was = sym s.left ∙ b.was; spelled = b.spelled; whole = b.whole })

  at : (left : Option (List ℕ)) → AddsSpelled (untaken_at h₁ k) p₁.left left → AddsFew 9 p.left left
  at None a = tt
  at (Some bytes) a = spelled bytes all a

pub same_bound : (left : Option (List ℕ)) → KeepsBound left left
same_bound None = tt
same_bound (Some bytes) = inl refl

-- a portion behind less than 1 MiB
pub adds_bound : (first left left' : Option (List ℕ)) → IsUnder left → AddsFew 9 left left' → KeepsBound first left'
adds_bound first left None under adds = tt
adds_bound first left (Some bytes) under adds =
    let b : AreBehind adds.0 left bytes = adds.2 in
    inr (b.before, subst (λ (x : Option (List ℕ)). IsUnder x) b.was under, (adds.0, adds.1, record { before = b.before; last = b.last; was = refl; spelled = b.spelled; whole = b.whole }))

pub bound_both : (a b c : Option (List ℕ)) → KeepsBound a b → KeepsBound b c → KeepsBound a c
bound_both a b None x y = tt
bound_both a b (Some bytes) x (inl same) = subst (λ (left : Option (List ℕ)). KeepsBound a left) same x
bound_both a b (Some bytes) x (inr more) = inr more
