use Rattle.std.proofs.Common.{◌≡◌, ◌==◌, ◌+◌, ◌≤◌, Bool, true, false, None, length-append, ℕ, zero, suc, List, [], ◌∷◌, ◌++◌, length, slice_get, Some, refl, sym, ap, ◌∙◌, arith}
use Rattle.std.specs.Prelude.{reverse}
use Rattle.std.proofs.lemmas.Bool.{ne_eqb, eq-eqb, eqb-true, eqb-false, le-ltb}
use Rattle.std.proofs.Math.Dec.{eqb-suc-suc}
use Rattle.std.proofs.lemmas.List.{reverse-append, length_push}
use Rattle.ipc_terms.specs.declared.record.Record.{Record}
use Rattle.ipc_terms.specs.History.{History, record_at}
use Rattle.ipc_trail.specs.Log.{Log}
use Rattle.ipc_trail.specs.Gone.{gone_records}
use Rattle.ipc_trail.proofs.trail.Trail.get.Goals as goal

-- the oldest record stands at place 0
at_first : (ys : History) (x : Record) → record_at zero (ys ++ x ∷ []) ≡ Some x
at_first [] x = refl
at_first (y ∷ ys) x = rw (ne_eqb (length (ys ++ x ∷ [])) 0 (λ (q : length (ys ++ x ∷ []) ≡ 0). let n = length_push ys x in omega arith)) (at_first ys x)

-- every other record stands one place later than without the oldest
at_later : (ys : History) (x : Record) (i : ℕ) → record_at (suc i) (ys ++ x ∷ []) ≡ record_at i ys
at_later [] x i = rw (ne_eqb 0 (suc i) (λ (q : 0 ≡ suc i). omega arith)) refl
at_later (y ∷ ys) x i =
    let n : length (ys ++ x ∷ []) ≡ suc (length ys) = let k = length_push ys x in omega arith in
    rw (n, eqb-suc-suc (length ys) i, at_later ys x i) refl

turned : (x : Record) (xs : List Record) → reverse (x ∷ xs) ≡ reverse xs ++ x ∷ []
turned x xs = reverse-append (x ∷ []) xs

places : (xs : List Record) (i : ℕ) → slice_get xs i ≡ record_at i (reverse xs)
places [] i = refl
places (x ∷ xs) zero = sym (rw (turned x xs) (at_first (reverse xs) x))
places (x ∷ xs) (suc i) = places xs i ∙ sym (rw (turned x xs) (at_later (reverse xs) x i))

past_all : (g : History) (p : ℕ) → length g ≤ p → record_at p g ≡ None
past_all [] p le = refl
past_all (x ∷ g) p le = rw (ne_eqb (length g) p (λ (q : length g ≡ p). omega arith), past_all g p (omega arith)) refl

shifted : (a b c : ℕ) → (a + b == a + c) ≡ (b == c)
shifted a b c = by (b == c) refl where
  by : (v : Bool) → (b == c) ≡ v → (a + b == a + c) ≡ v
  by true e = eq-eqb (a + b) (a + c) (let k = eqb-true b c e in omega arith)
  by false e = ne_eqb (a + b) (a + c) (λ (q : a + b ≡ a + c). eqb-false b c e (omega arith))

-- what was forgotten moves the places behind it
behind : (xs g : History) (i : ℕ) → record_at (length g + i) (xs ++ g) ≡ record_at i xs
behind [] g i = past_all g (length g + i) (omega arith)
behind (x ∷ xs) g i =
    let n : length (xs ++ g) ≡ length g + length xs = (let k = length-append xs g in omega arith) in
    rw (n, shifted (length g) (length xs) i, behind xs g i) refl

pub returns : goal.returns
returns c =
    let items = c.self.inside.records.items in
    let gone = gone_records c.self.inside.gone.value in
    let at = c.in_ok-at.at in
    let within = c.in_ok-at.ensures.0 in
    let exact = c.in_ok-at.ensures.1 in
    let cut = c.self.invariant.0 in
    let same : c.self.inside.first ≡ c.args.self.now.first = ap (λ (t : Log). t.first) c.self.view_is in
    let here : length gone + at ≡ c.args.place = omega (arith, within, exact, cut) in
    rw (le-ltb c.args.place c.args.self.now.first (omega (arith, same, within)))
    (c.find_record.ensures ∙ places items at ∙ sym (behind (reverse items) gone at) ∙ ap (λ p. record_at p (reverse items ++ gone)) here ∙ ap (λ (t : Log). record_at c.args.place t.history) c.self.view_is)
