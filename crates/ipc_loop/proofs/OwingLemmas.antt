-- Who is owed answers.
use Rattle.std.proofs.Common.{◌≡◌, ◌≢◌, ◌⊎◌, inl, inr, ℕ, Bool, true, false, eqb, cond, List, [], ◌∷◌, ◌++◌, length, slice_get, Option, Some, None, refl, sym, ap, subst, ◌∙◌, arith}
use Rattle.std.specs.Prelude.{unwrap_or}
use Rattle.std.specs.Option.{option_map, option_or}
use Rattle.std.proofs.lemmas.Bool.{eqb-true}
use Rattle.ipc_terms.proofs.Lists.{slice_get_push, slice_past}
use Rattle.ipc_hub.specs.Marking.{is_set}
use Rattle.ipc_hub.specs.Hub.{Connection, new_connection, with_connection, Hub, Marks, Takes, is_marked, untaken_at, untaken, spell_answers}
use Rattle.ipc_loop.specs.Ports.{Port, new_port, open_at, with_port}
use Rattle.ipc_loop.specs.Serving.{KeepsMarks, KeepsPortMarks, Answers, LetsGo}

abbrev pub Ports : Type 0
Ports = ℕ → Option Port

-- a port that keeps what is left is answered as it was, where nothing more is untaken
still : {A : Type 0} (u u' : List A) (left left' : Option (List ℕ)) → u' ≡ u → left' ≡ left → (u ≡ []) ⊎ (left ≢ Some []) → (u' ≡ []) ⊎ (left' ≢ Some [])
still u u' left left' e f (inl none) = inl (e ∙ none)
still u u' left left' e f (inr more) = inr (λ (q : left' ≡ Some []). more (sym f ∙ q))

pub unmarked_before : (h h' : Hub) (i : ℕ) → Marks h h' → is_marked h' i ≡ false → is_marked h i ≡ false
unmarked_before h h' i marks now = at (is_marked h i) refl where
  at : (b : Bool) → is_marked h i ≡ b → b ≡ false
  at true e = let on : true ≡ false = sym (marks.kept i e) ∙ now in absurd cc
  at false e = refl

-- the hub may answer anybody, and what is left of port k stays
pub marks_keep : (k : ℕ) (h h' : Hub) (p p' : Port) → Marks h h' → p'.left ≡ p.left → KeepsPortMarks k h p h' p'
marks_keep k h h' p p' marks same others i before now port e = at (eqb k i) (others i) (before (unmarked_before h h' i marks now)) e where
  at : (here : Bool) (o : Option Port) → ((q : Port) → cond here (Some p) o ≡ Some q → (untaken_at h i ≡ []) ⊎ (q.left ≢ Some [])) → cond here (Some p') o ≡ Some port → (untaken_at h' i ≡ []) ⊎ (port.left ≢ Some [])
  at true o f g = let is : p' ≡ port = cc in still _ _ p.left port.left (marks.silent i now) (ap (λ (x : Port). x.left) (sym is) ∙ same) (f p refl)
  at false o f g = still _ _ port.left port.left (marks.silent i now) refl (f port g)

pub same_keep : (k : ℕ) (h : Hub) (p p' : Port) → p'.left ≡ p.left → KeepsPortMarks k h p h p'
same_keep k h p p' same = marks_keep k h h p p' (record { kept = λ i e. e; silent = λ i e. refl }) same

-- connection k's answers are taken as far as its link takes them
pub answers_keep : (k : ℕ) (h h' : Hub) (p p' : Port) → Answers k h h' p' → KeepsPortMarks k h p h' p'
answers_keep k h h' p p' a others i before now port e = at (eqb k i) refl (others i) (before (ap (λ (flags : List Bool). is_set flags i) (sym a.marks) ∙ now)) e where
  at : (here : Bool) → eqb k i ≡ here → (o : Option Port) → ((q : Port) → cond here (Some p) o ≡ Some q → (untaken_at h i ≡ []) ⊎ (q.left ≢ Some [])) → cond here (Some p') o ≡ Some port → (untaken_at h' i ≡ []) ⊎ (port.left ≢ Some [])
  at true is o f g = let same : p' ≡ port = cc in subst (λ (q : Port). (untaken_at h' i ≡ []) ⊎ (q.left ≢ Some [])) same (subst (λ (j : ℕ). (untaken_at h' j ≡ []) ⊎ (p'.left ≢ Some [])) (eqb-true k i is) a.answered)
  at false is o f g = still _ _ port.left port.left (a.others i is) refl (f port g)

-- a new port, whose connection was answered nothing
pub pushed_keeps : (h : Hub) (xs : List (Option Port)) → untaken_at h (length xs) ≡ [] → KeepsMarks h (open_at xs) h (open_at (xs ++ Some new_port ∷ []))
pushed_keeps h xs none i before now port e = at (eqb (length xs) i) refl (slice_get xs i) (λ (q : Port). before now q) (sym (ap (λ (s : Option (Option Port)). unwrap_or s None) (slice_get_push xs (Some new_port) i)) ∙ e) where
  at : (here : Bool) → eqb (length xs) i ≡ here → (s : Option (Option Port)) → ((q : Port) → unwrap_or s None ≡ Some q → (untaken_at h i ≡ []) ⊎ (q.left ≢ Some [])) → unwrap_or (option_or (cond here (Some (Some new_port)) None) s) None ≡ Some port → (untaken_at h i ≡ []) ⊎ (port.left ≢ Some [])
  at true is s f g = inl (ap (untaken_at h) (sym (eqb-true (length xs) i is)) ∙ none)
  at false is s f g = f port g

-- the same ports, told in another way
pub keeps_so : (h h' : Hub) (p q p' q' : Ports) → ((i : ℕ) → q i ≡ p i) → ((i : ℕ) → q' i ≡ p' i) → KeepsMarks h p h' p' → KeepsMarks h q h' q'
keeps_so h h' p q p' q' before later a i owed now port e = a i (λ u r f. owed u r (before i ∙ f)) now port (sym (later i) ∙ e)

-- a link that is closed is owed nothing
pub closed_keeps : (k : ℕ) (h h' : Hub) (o : Ports) (p : Port) → LetsGo h k p h' → KeepsMarks h (with_port o k (Some p)) h' (with_port o k None)
closed_keeps k h h' o p lets i before now port e = at (eqb k i) refl (o i) (before (ap (λ (flags : List Bool). is_set flags i) (sym lets.dropped.marked) ∙ now)) e where
  at : (here : Bool) → eqb k i ≡ here → (x : Option Port) → ((q : Port) → cond here (Some p) x ≡ Some q → (untaken_at h i ≡ []) ⊎ (q.left ≢ Some [])) → cond here None x ≡ Some port → (untaken_at h' i ≡ []) ⊎ (port.left ≢ Some [])
  at true is x f g = absurd cc
  at false is x f g = still _ _ port.left port.left (lets.others i is) refl (f port g)

pub both_keep : (h₀ h₁ h₂ : Hub) (p₀ p₁ p₂ : Ports) → KeepsMarks h₀ p₀ h₁ p₁ → KeepsMarks h₁ p₁ h₂ p₂ → KeepsMarks h₀ p₀ h₂ p₂
both_keep h₀ h₁ h₂ p₀ p₁ p₂ a b i owed = b i (a i owed)

-- the hub answers anybody
pub hub_keeps : (h h' : Hub) (p : Ports) → Marks h h' → KeepsMarks h p h' p
hub_keeps h h' p marks i before now port e = still _ _ port.left port.left (marks.silent i now) refl (before (unmarked_before h h' i marks now) port e)

pub opened_untaken : (h : Hub) (i : ℕ) → untaken_at (with_connection h) i ≡ untaken_at h i
opened_untaken h i = ap (λ (s : Option Connection). unwrap_or (option_map (untaken h.core) s) []) (slice_get_push h.connections new_connection i) ∙ at (eqb (length h.connections) i) refl where
  at : (here : Bool) → eqb (length h.connections) i ≡ here → unwrap_or (option_map (untaken h.core) (option_or (cond here (Some new_connection) None) (slice_get h.connections i))) [] ≡ untaken_at h i
  at true is = sym (ap (λ (s : Option Connection). unwrap_or (option_map (untaken h.core) s) []) (slice_past h.connections i (omega (arith, eqb-true (length h.connections) i is))))
  at false is = refl

pub opened_marked : (h : Hub) (i : ℕ) → is_marked (with_connection h) i ≡ is_marked h i
opened_marked h i = ap (λ (s : Option Bool). unwrap_or s false) (slice_get_push h.marked false i) ∙ at (eqb (length h.marked) i) refl where
  at : (here : Bool) → eqb (length h.marked) i ≡ here → unwrap_or (option_or (cond here (Some false) None) (slice_get h.marked i)) false ≡ is_marked h i
  at true is = sym (ap (λ (s : Option Bool). unwrap_or s false) (slice_past h.marked i (omega (arith, eqb-true (length h.marked) i is))))
  at false is = refl

-- a connection is opened
pub opened_keeps : (h h' : Hub) (p : Ports) → h' ≡ with_connection h → KeepsMarks h p h' p
opened_keeps h h' p e = subst (λ (x : Hub). KeepsMarks h p x p) (sym e) (hub_keeps h (with_connection h) p (record { kept = λ i m. opened_marked h i ∙ m; silent = λ i m. opened_untaken h i }))

-- what is given is the spelling of what was untaken
pub takes_spelled : (h h' : Hub) (k : ℕ) (bytes : List ℕ) → Takes h k bytes h' → spell_answers (untaken_at h k) ≡ Some bytes
takes_spelled h h' k bytes takes = ap (λ (s : Option Connection). spell_answers (unwrap_or (option_map (untaken h.core) s) [])) takes.changes.was ∙ takes.given
