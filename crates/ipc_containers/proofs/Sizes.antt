-- How large the items in buckets are together.
use Rattle.std.proofs.Common.{◌≡◌, ℕ, ◌+◌, ◌≤◌, ◌==◌, ◌∙◌, Bool, true, false, not, cond, List, [], ◌∷◌, length, Option, Some, None, refl, sym, ap, arith}
use Rattle.std.proofs.lemmas.Bool.Decides.{nat_tests}
use Rattle.std.proofs.lemmas.List.Filters.{sum_by-filter_both}
use Rattle.std.proofs.lemmas.List.Sums.{sum_by-cons}
use Rattle.std.specs.Prelude.{filter, min, option_and_then}
use Rattle.std.specs.List.{sum_by, AllByRecursion}
use Rattle.std.specs.List.Sorted.{IsStrictlySortedBy}
use Rattle.std.specs.Ordering.{nat_cmp}
use Rattle.std.specs.declared.cmp.Ordering.TheVariants.{Less}
use Rattle.std.specs.BTreeMap.{is_at}
use Rattle.std.specs.Map.{lookup, keys_of, values_of}
use Rattle.ipc_containers.specs.Bucket.{items_of}
use Rattle.ipc_containers.specs.Buckets.{bucket_of}

-- ---- items by their keys

abbrev of_key : {T : Type 0} → (T → ℕ) → ℕ → List T → List T
of_key key_of key all = filter (λ item. key == key_of item) all

abbrev of_others : {T : Type 0} → (T → ℕ) → ℕ → List T → List T
of_others key_of key all = filter (λ item. not (key == key_of item)) all

own_key : (key : ℕ) → (key == key) ≡ true
own_key key = grind (arith, nat_tests)

-- where no key has any, there is none
none_of_any : {T : Type 0} (key_of : T → ℕ) (all : List T) → ((key : ℕ) → None ≡ bucket_of (of_key key_of key all)) → all ≡ []
none_of_any key_of [] none = refl
none_of_any {T = T} key_of (t ∷ ts) none = absurd (by (key_of t == key_of t) (own_key (key_of t)) (none (key_of t))) where
  by : (b : Bool) → b ≡ true → None ≡ bucket_of (cond b (t ∷ of_key key_of (key_of t) ts) (of_key key_of (key_of t) ts)) → ⊥
  by true is e = cc
  by false is e = cc

none_kept : {T : Type 0} (key_of : T → ℕ) (key : ℕ) (all : List T) → of_key key_of key (of_others key_of key all) ≡ []
none_kept key_of key [] = refl
none_kept {T = T} key_of key (t ∷ ts) = by (key == key_of t) refl (none_kept key_of key ts) where
  by : (b : Bool) → (key == key_of t) ≡ b → of_key key_of key (of_others key_of key ts) ≡ [] → of_key key_of key (cond (not b) (t ∷ of_others key_of key ts) (of_others key_of key ts)) ≡ []
  by true is behind = behind
  by false is behind = ap (λ b. cond b (t ∷ of_key key_of key (of_others key_of key ts)) (of_key key_of key (of_others key_of key ts))) is ∙ behind

others_kept : {T : Type 0} (key_of : T → ℕ) (gone key : ℕ) (all : List T) → (gone == key) ≡ false → of_key key_of key (of_others key_of gone all) ≡ of_key key_of key all
others_kept key_of gone key [] apart = refl
others_kept {T = T} key_of gone key (t ∷ ts) apart = by (gone == key_of t) refl (others_kept key_of gone key ts apart) where
  by : (b : Bool) → (gone == key_of t) ≡ b → of_key key_of key (of_others key_of gone ts) ≡ of_key key_of key ts
      → of_key key_of key (cond (not b) (t ∷ of_others key_of gone ts) (of_others key_of gone ts)) ≡ cond (key == key_of t) (t ∷ of_key key_of key ts) (of_key key_of key ts)
  by true is behind =
      let other : (key == key_of t) ≡ false = grind (arith, nat_tests) in
      behind ∙ ap (λ b. cond b (t ∷ of_key key_of key ts) (of_key key_of key ts)) (sym other)
  by false is behind = ap (λ l. cond (key == key_of t) (t ∷ l) l) behind

-- ---- entries of a map

is_at_key : (key other : ℕ) → is_at (nat_cmp key) other ≡ (key == other)
is_at_key key other = grind (arith, nat_tests)

absent : {X : Type 0} (key : ℕ) (es : List (ℕ × X)) → AllByRecursion (λ other. nat_cmp key other ≡ Less) (keys_of es) → lookup (is_at (nat_cmp key)) es ≡ None
absent key [] above = refl
absent {X = X} key (e ∷ es) above = by (is_at (nat_cmp key) e.0) (let other : is_at (nat_cmp key) e.0 ≡ false = rw above.0 refl in other) (absent key es above.1) where
  by : (b : Bool) → b ≡ false → lookup (is_at (nat_cmp key)) es ≡ None → cond b (Some e.1) (lookup (is_at (nat_cmp key)) es) ≡ None
  by true is behind = absurd cc
  by false is behind = behind

same_items : {T : Type 0} (xs ys : List T) → bucket_of xs ≡ bucket_of ys → xs ≡ ys
same_items [] [] e = refl
same_items [] (y ∷ ys) e = absurd cc
same_items (x ∷ xs) [] e = absurd cc
same_items (x ∷ xs) (y ∷ ys) e = cc

-- the buckets of all items are as large as these
pub size_of_all : {T : Type 0} (size key_of : T → ℕ) (es : List (ℕ × List T)) (all : List T) → IsStrictlySortedBy nat_cmp (keys_of es)
    → ((key : ℕ) → option_and_then bucket_of (lookup (is_at (nat_cmp key)) es) ≡ bucket_of (of_key key_of key all))
    → sum_by (λ items. sum_by size items) (values_of es) ≡ sum_by size all
unfolding IsStrictlySortedBy
size_of_all size key_of [] all sorted stand = ap (sum_by size) (sym (none_of_any key_of all stand))
size_of_all {T = T} size key_of (e ∷ es) all sorted stand =
    let own : e.1 ≡ of_key key_of e.0 all = same_items _ _ (at_own (is_at (nat_cmp e.0) e.0) (is_at_key e.0 e.0 ∙ own_key e.0) (stand e.0)) in
    sum_by-cons (λ items. sum_by size items) e.1 (values_of es)
    ∙ ap (λ items. sum_by size items + sum_by (λ items. sum_by size items) (values_of es)) own
    ∙ ap (λ n. sum_by size (of_key key_of e.0 all) + n) (size_of_all size key_of es (of_others key_of e.0 all) sorted.1 (λ key. behind key (e.0 == key) refl (stand key)))
    ∙ sum_by-filter_both (λ item. e.0 == key_of item) (λ item. not (e.0 == key_of item)) (λ item. refl) size all where
      at_own : (b : Bool) → b ≡ true → option_and_then bucket_of (cond b (Some e.1) (lookup (is_at (nat_cmp e.0)) es)) ≡ bucket_of (of_key key_of e.0 all) → bucket_of e.1 ≡ bucket_of (of_key key_of e.0 all)
      at_own true is s = s
      at_own false is s = absurd cc

      past : (key : ℕ) (b : Bool) → b ≡ false → option_and_then bucket_of (cond b (Some e.1) (lookup (is_at (nat_cmp key)) es)) ≡ bucket_of (of_key key_of key all) → option_and_then bucket_of (lookup (is_at (nat_cmp key)) es) ≡ bucket_of (of_key key_of key all)
      past key true is s = absurd cc
      past key false is s = s

      behind : (key : ℕ) (b : Bool) → (e.0 == key) ≡ b → option_and_then bucket_of (cond (is_at (nat_cmp key) e.0) (Some e.1) (lookup (is_at (nat_cmp key)) es)) ≡ bucket_of (of_key key_of key all)
          → option_and_then bucket_of (lookup (is_at (nat_cmp key)) es) ≡ bucket_of (of_key key_of key (of_others key_of e.0 all))
      behind key true is s =
          let same : e.0 ≡ key = grind (arith, nat_tests) in
          rw (← same) (ap (λ o. option_and_then bucket_of o) (absent e.0 es sorted.0) ∙ ap bucket_of (sym (none_kept key_of e.0 all)))
      behind key false is s =
          let other : is_at (nat_cmp key) e.0 ≡ false = is_at_key key e.0 ∙ (let apart : (key == e.0) ≡ false = grind (arith, nat_tests) in apart) in
          past key (is_at (nat_cmp key) e.0) other s ∙ ap bucket_of (sym (others_kept key_of e.0 key all is))

-- ---- a sum that stops at a bound

pub none_yet : (n : ℕ) → 0 + n ≡ n
none_yet n = omega arith

pub one_more : (most was now own rest total : ℕ) → min (was + (own + rest)) most ≡ total → now ≡ min (was + own) most → min (now + rest) most ≡ total
one_more most was now own rest total e f = omega arith

pub bucket_more : (most was now size own rest total : ℕ) → min (was + (own + rest)) most ≡ total → size ≡ min own most → now ≡ min (was + size) most → min (now + rest) most ≡ total
bucket_more most was now size own rest total e s f = omega arith

pub at_most : (most was now size : ℕ) → now ≡ min (was + size) most → now ≤ most
at_most most was now size e = omega arith

pub at_end : (most was rest total : ℕ) → was ≤ most → min (was + rest) most ≡ total → rest ≡ 0 → was ≡ total
at_end most was rest total le e f = omega arith

pub none_left : {T : Type 0} (size : T → ℕ) (xs : List T) → length xs ≡ 0 → sum_by size xs ≡ 0
none_left size [] e = refl
none_left size (x ∷ xs) e = absurd (omega arith)

-- the first item was added up
pub first_of_all : {T : Type 0} (most n : ℕ) (size : T → ℕ) (first : Option T) (x : T) (others rest all : List T) → items_of first others ≡ all → first ≡ Some x → rest ≡ others → n ≡ size x → min (n + sum_by size rest) most ≡ min (sum_by size all) most
first_of_all most n size first x others rest all view is left e =
    let every : sum_by size all ≡ size x + sum_by size others = ap (sum_by size) (sym view ∙ ap (λ f. items_of f others) is) ∙ sum_by-cons size x others in
    let same : sum_by size rest ≡ sum_by size others = ap (sum_by size) left in
    omega arith

-- and where there is none, nothing is left
pub none_at_first : {T : Type 0} (most n : ℕ) (size : T → ℕ) (first : Option T) (others rest all : List T) → items_of first others ≡ all → first ≡ None → rest ≡ others → n ≡ 0 → min (n + sum_by size rest) most ≡ min (sum_by size all) most
none_at_first most n size first others rest all view is left e =
    let every : sum_by size all ≡ sum_by size others = ap (sum_by size) (sym view ∙ ap (λ f. items_of f others) is) in
    let same : sum_by size rest ≡ sum_by size others = ap (sum_by size) left in
    omega arith
