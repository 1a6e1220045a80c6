-- Marks are set and taken away.
use Rattle.std.proofs.Common.{◌≡◌, ℕ, zero, suc, ◌+◌, ◌<◌, ◌≤◌, Bool, true, false, eqb, cond, List, [], ◌∷◌, ◌++◌, length, set, Option, Some, None, refl, sym, ap, ◌∙◌, arith}
use Rattle.ipc_terms.specs.Lists.{Each}
use Rattle.ipc_terms.specs.declared.ids.Sid.{Sid}
use Rattle.std.proofs.lemmas.Bool.{ne_eqb, eq-eqb, eqb-true}
use Rattle.ipc_terms.proofs.Lists.{eqb_suc}
use Rattle.ipc_hub.specs.Marking.{is_set, how_many_set, times, owner_of, AreListed, MarksView, MarksOwners}

-- ---- flags

pub set_at : (xs : List Bool) (i : ℕ) (b : Bool) (j : ℕ) → i < length xs → is_set (set xs i b) j ≡ cond (eqb i j) b (is_set xs j)
set_at [] i b j lt = absurd (omega arith)
set_at (x ∷ xs) zero b zero lt = refl
set_at (x ∷ xs) zero b (suc j) lt = let other : eqb 0 (suc j) ≡ false = ne_eqb 0 (suc j) (λ (q : 0 ≡ suc j). omega arith) in rw other refl
set_at (x ∷ xs) (suc i) b zero lt = let other : eqb (suc i) 0 ≡ false = ne_eqb (suc i) 0 (λ (q : suc i ≡ 0). omega arith) in rw other refl
set_at (x ∷ xs) (suc i) b (suc j) lt = set_at xs i b j (omega arith) ∙ ap (λ t. cond t b (is_set xs j)) (sym (eqb_suc i j))

pub set_count : (xs : List Bool) (i : ℕ) (b : Bool) → length (set xs i b) ≡ length xs
set_count [] i b = refl
set_count (x ∷ xs) zero b = refl
set_count (x ∷ xs) (suc i) b = ap suc (set_count xs i b)

pub set_past : (xs : List Bool) (i : ℕ) (b : Bool) → length xs ≤ i → set xs i b ≡ xs
set_past [] i b le = refl
set_past (x ∷ xs) zero b le = absurd (omega arith)
set_past (x ∷ xs) (suc i) b le = ap (λ (ys : List Bool). x ∷ ys) (set_past xs i b (omega arith))

pub set_again : (xs : List Bool) (i : ℕ) → is_set xs i ≡ true → set xs i true ≡ xs
set_again [] i on = refl
set_again (x ∷ xs) zero on = ap (λ (y : Bool). y ∷ xs) (sym on)
set_again (x ∷ xs) (suc i) on = ap (λ (ys : List Bool). x ∷ ys) (set_again xs i on)

pub set_within : (xs : List Bool) (i : ℕ) → is_set xs i ≡ true → i < length xs
set_within [] i on = absurd cc
set_within (x ∷ xs) zero on = omega arith
set_within (x ∷ xs) (suc i) on = let lt = set_within xs i on in omega arith

pub pushed_at : (xs : List Bool) (i : ℕ) → is_set (xs ++ false ∷ []) i ≡ is_set xs i
pushed_at [] zero = refl
pushed_at [] (suc i) = refl
pushed_at (x ∷ xs) zero = refl
pushed_at (x ∷ xs) (suc i) = pushed_at xs i

count_pushed : (xs : List Bool) → how_many_set (xs ++ false ∷ []) ≡ how_many_set xs
count_pushed [] = refl
count_pushed (true ∷ xs) = ap (λ n. n + 1) (count_pushed xs)
count_pushed (false ∷ xs) = count_pushed xs

count_marked : (xs : List Bool) (i : ℕ) → i < length xs → is_set xs i ≡ false → how_many_set (set xs i true) ≡ how_many_set xs + 1
count_marked [] i lt off = absurd (omega arith)
count_marked (true ∷ xs) zero lt off = absurd cc
count_marked (false ∷ xs) zero lt off = refl
count_marked (true ∷ xs) (suc i) lt off = ap (λ n. n + 1) (count_marked xs i (omega arith) off)
count_marked (false ∷ xs) (suc i) lt off = count_marked xs i (omega arith) off

count_named : (xs : List Bool) (i : ℕ) → is_set xs i ≡ true → how_many_set xs ≡ how_many_set (set xs i false) + 1
count_named [] i on = absurd cc
count_named (true ∷ xs) zero on = refl
count_named (false ∷ xs) zero on = absurd cc
count_named (true ∷ xs) (suc i) on = ap (λ n. n + 1) (count_named xs i on)
count_named (false ∷ xs) (suc i) on = count_named xs i on

-- ---- their numbers in a list

times_end : (i : ℕ) (js : List ℕ) (j : ℕ) → times i (js ++ j ∷ []) ≡ cond (eqb j i) (times i js + 1) (times i js)
times_end i [] j = refl
times_end i (k ∷ ks) j = at (eqb k i) (eqb j i) (times_end i ks j) where
  at : (a b : Bool) → times i (ks ++ j ∷ []) ≡ cond b (times i ks + 1) (times i ks) → cond a (times i (ks ++ j ∷ []) + 1) (times i (ks ++ j ∷ [])) ≡ cond b (cond a (times i ks + 1) (times i ks) + 1) (cond a (times i ks + 1) (times i ks))
  at true true e = ap (λ n. n + 1) e
  at true false e = ap (λ n. n + 1) e
  at false true e = e
  at false false e = e

pub none_listed : AreListed [] []
none_listed = record { once = λ i. refl; count = refl }

pub all_off : (xs : List Bool) → AreListed xs [] → (i : ℕ) → is_set xs i ≡ false
all_off xs h i = at (is_set xs i) (h.once i) where
  at : (b : Bool) → ◌≡◌ {A = ℕ} 0 (cond b 1 0) → b ≡ false
  at true e = absurd (omega arith)
  at false e = refl

pub listed_more : (xs : List Bool) (js : List ℕ) → AreListed xs js → AreListed (xs ++ false ∷ []) js
listed_more xs js h = record { once = λ i. h.once i ∙ ap (λ b. cond b 1 0) (sym (pushed_at xs i)); count = h.count ∙ sym (count_pushed xs) }

length_end : (js : List ℕ) (j : ℕ) → length (js ++ j ∷ []) ≡ length js + 1
length_end [] j = refl
length_end (k ∷ ks) j = let e = length_end ks j in omega arith

pub listed_marked : (xs : List Bool) (js : List ℕ) (i : ℕ) → i < length xs → is_set xs i ≡ false → AreListed xs js → AreListed (set xs i true) (js ++ i ∷ [])
listed_marked xs js i lt off h = record {
  once = λ j. times_end j js i ∙ at j (eqb i j) refl ∙ ap (λ b. cond b 1 0) (sym (set_at xs i true j lt));
  count = length_end js i ∙ ap (λ n. n + 1) h.count ∙ sym (count_marked xs i lt off);
} where
  at : (j : ℕ) (b : Bool) → eqb i j ≡ b → cond b (times j js + 1) (times j js) ≡ cond (cond b true (is_set xs j)) 1 0
  at j true e = ap (λ n. n + 1) (h.once j ∙ ap (λ b. cond b 1 0) (ap (is_set xs) (sym (eqb-true i j e)) ∙ off))
  at j false e = h.once j

pub was_listed : (xs : List Bool) (js : List ℕ) (i : ℕ) → AreListed xs (js ++ i ∷ []) → is_set xs i ≡ true
was_listed xs js i h = at (is_set xs i) (sym (ap (λ b. cond b (times i js + 1) (times i js)) (eq-eqb i i refl)) ∙ sym (times_end i js i) ∙ h.once i) where
  at : (b : Bool) → times i js + 1 ≡ cond b 1 0 → b ≡ true
  at true e = refl
  at false e = absurd (omega arith)

pub listed_named : (xs : List Bool) (js : List ℕ) (i : ℕ) → AreListed xs (js ++ i ∷ []) → AreListed (set xs i false) js
listed_named xs js i h = record {
  once = λ j. at j (eqb i j) refl (sym (times_end j js i) ∙ h.once j) ∙ ap (λ b. cond b 1 0) (sym (set_at xs i false j lt));
  count = (let n : length js + 1 ≡ how_many_set xs = sym (length_end js i) ∙ h.count in let k : how_many_set xs ≡ how_many_set (set xs i false) + 1 = count_named xs i on in omega arith);
} where
  on : is_set xs i ≡ true
  on = was_listed xs js i h

  lt : i < length xs
  lt = set_within xs i on

  at : (j : ℕ) (b : Bool) → eqb i j ≡ b → cond b (times j js + 1) (times j js) ≡ cond (is_set xs j) 1 0 → times j js ≡ cond (cond b false (is_set xs j)) 1 0
  at j true e k = let one : times j js + 1 ≡ 1 = k ∙ ap (λ b. cond b 1 0) (ap (is_set xs) (sym (eqb-true i j e)) ∙ on) in omega arith
  at j false e k = k

-- ---- the connections of sessions

pub none_marked : (m : MarksView) → MarksOwners m [] m
none_marked m = record { same = refl; count = refl; kept = λ i on. on; none = λ s i e may off. tt }

pub none_owns : (m : MarksView) (sid : Sid) → owner_of m.owners sid.0 ≡ None → MarksOwners m (sid ∷ []) m
none_owns m sid none = record {
  same = refl;
  count = refl;
  kept = λ i on. on;
  none = λ s i e may off. (ne_eqb sid.0 s (λ (q : sid.0 ≡ s). owned i (sym none ∙ ap (owner_of m.owners) q ∙ e)), tt);
} where
  owned : (i : ℕ) → ◌≡◌ {A = Option ℕ} None (Some i) → ⊥
  owned i e = absurd cc

some_owner : (j k : ℕ) → Some j ≡ Some k → j ≡ k
some_owner j k e = cc

-- its connection has no flag
pub unflagged_owner : (m : MarksView) (sid : Sid) (i : ℕ) → owner_of m.owners sid.0 ≡ Some i → is_set m.flagged i ≡ false → MarksOwners m (sid ∷ []) m
unflagged_owner m sid i own none = record {
  same = refl;
  count = refl;
  kept = λ j on. on;
  none = λ s j e may off. (ne_eqb sid.0 s (λ (q : sid.0 ≡ s). absurd (let wrong : false ≡ true = sym none ∙ ap (is_set m.flagged) (some_owner i j (sym own ∙ ap (owner_of m.owners) q ∙ e)) ∙ may in cc)), tt);
}

pub owner_marked : (m : MarksView) (sid : Sid) (i : ℕ) → owner_of m.owners sid.0 ≡ Some i → i < length m.marked → MarksOwners m (sid ∷ []) (record m { marked = set m.marked i true })
owner_marked m sid i own lt = record {
  same = refl;
  count = set_count m.marked i true;
  kept = λ j on. set_at m.marked i true j lt ∙ still (eqb i j) (is_set m.marked j) on;
  none = λ s j e may off. (at s j e off (eqb sid.0 s) refl, tt);
} where
  still : (b on : Bool) → on ≡ true → cond b true on ≡ true
  still true on e = refl
  still false on e = e

  at : (s j : ℕ) → owner_of m.owners s ≡ Some j → is_set (set m.marked i true) j ≡ false → (b : Bool) → eqb sid.0 s ≡ b → eqb sid.0 s ≡ false
  at s j e off false k = k
  at s j e off true k =
      let same : i ≡ j = some_owner i j (sym own ∙ ap (owner_of m.owners) (eqb-true sid.0 s k) ∙ e) in
      absurd (let on : true ≡ false = sym (ap (λ b. cond b true (is_set m.marked j)) (eq-eqb i j same)) ∙ sym (set_at m.marked i true j lt) ∙ off in cc)

each_both : {X : Type 0} (P : X → Type 0) (xs ys : List X) → Each P xs → Each P ys → Each P (xs ++ ys)
each_both P [] ys h k = k
each_both P (x ∷ xs) ys h k = (h.0, each_both P xs ys h.1 k)

-- one after another
pub both_marked : (a b c : MarksView) (xs ys : List Sid) → MarksOwners a xs b → MarksOwners b ys c → MarksOwners a (xs ++ ys) c
both_marked a b c xs ys h k = record {
  same = k.same ∙ ap (λ (m : MarksView). record m { marked = c.marked }) h.same;
  count = k.count ∙ h.count;
  kept = λ i on. k.kept i (h.kept i on);
  none = λ s i e may off. each_both (λ (sid : Sid). eqb sid.0 s ≡ false) xs ys (h.none s i e may (before (is_set b.marked i) refl (λ on. sym (k.kept i on) ∙ off))) (k.none s i (ap (λ (m : MarksView). owner_of m.owners s) h.same ∙ e) (ap (λ (m : MarksView). is_set m.flagged i) h.same ∙ may) off);
} where
  before : (p : Bool) {q : Bool} → q ≡ p → (q ≡ true → true ≡ false) → q ≡ false
  before false e f = e
  before true e f = absurd (let wrong = f e in cc)
