-- What buckets say of the items that they hold, and what a call leaves of them.
use Rattle.std.proofs.Common.{rules, ◌≡◌, ◌≢◌, ℕ, ◌+◌, ◌<◌, ◌≤◌, ◌==◌, Bool, false, true, cond, List, [], ◌∷◌, ◌++◌, length, drop, Option, Some, None, is_some, refl, sym, ap, ◌∙◌, arith}
use Rattle.std.proofs.lemmas.Bool.{both_ways}
use Rattle.std.proofs.lemmas.Bool.Decides.{nat_tests}
use Rattle.std.specs.Option.{option_and_then, unwrap_or, IsSome}
use Rattle.std.specs.Ordering.{nat_cmp, is_lt}
use Rattle.std.specs.BTreeMap.{keys, get, is_at, btree_map_len, IsUpperBound}
use Rattle.std.specs.Map.{lookup, keys_of}
use Rattle.ipc_terms.specs.Lists.{first}
use Rattle.ipc_containers.specs.declared.buckets.Buckets.{Buckets}
use Rattle.ipc_containers.specs.Buckets.{bucket_at, bucket_of, with_last, without_front, OthersAreFilled, EmptyStandsAlone, Holds, IsFirstOfGreatest, IsGreatestLeft}

no_bucket : {T : Type 0} (found : Option (List T)) (xs : List T) → option_and_then bucket_of found ≡ bucket_of xs → (IsSome found → false ≡ true) → xs ≡ []
no_bucket found [] e none = cc
no_bucket None (x ∷ xs) e none = absurd cc
no_bucket (Some bucket) (x ∷ xs) e none = absurd (both_ways false refl (none (search rules)))

-- the first in a bucket is the first item of its key
has_first : {T : Type 0} (b : Buckets T) (items : ℕ → List T) (key : ℕ) (x : T) (bucket : List T) → Holds b items → get nat_cmp b.buckets key ≡ Some bucket → first bucket ≡ Some x → (rest : List T) × (items key ≡ x ∷ rest)
unfolding Holds
has_first {T = T} b items key x bucket holds at is = same bucket (items key) is (sym (holds.1 key) ∙ ap (λ o. option_and_then bucket_of o) at) where
  same : (items xs : List T) → first items ≡ Some x → bucket_of xs ≡ bucket_of items → (rest : List T) × (xs ≡ x ∷ rest)
  same [] xs is e = absurd cc
  same (y ∷ rest) [] is e = absurd cc
  same (y ∷ rest) (z ∷ zs) is e = (zs, cc)

above : (key other : ℕ) → key < other → is_lt (nat_cmp key other) ≡ true
above key other less = grind (arith, nat_tests)

-- above the greatest key with a bucket no key has items
none_above : {T : Type 0} (b : Buckets T) (items : ℕ → List T) (key other : ℕ) → Holds b items → IsUpperBound nat_cmp b.buckets key → key < other → items other ≡ []
unfolding Holds
none_above b items key other holds upper less =
    no_bucket (get nat_cmp b.buckets other) (items other) (holds.1 other) (λ some. sym (upper other some) ∙ above key other less)

-- the first in the bucket of the greatest key
pub first_of_last : {T : Type 0} (b : Buckets T) (items : ℕ → List T) (key : ℕ) (x : T) (bucket : List T) → Holds b items → get nat_cmp b.buckets key ≡ Some bucket → IsUpperBound nat_cmp b.buckets key → first bucket ≡ Some x → IsFirstOfGreatest items (Some (key, x))
first_of_last b items key x bucket holds at upper is = (has_first b items key x bucket holds at is, λ other less. none_above b items key other holds upper less)

-- where there is no bucket no key has items
pub none_at_all : {T : Type 0} (b : Buckets T) (items : ℕ → List T) → Holds b items → (0 < length b.buckets.entries → false ≡ true) → (key : ℕ) → items key ≡ []
unfolding Holds
none_at_all {T = T} b items holds none key = no_bucket (get nat_cmp b.buckets key) (items key) (holds.1 key) (λ some. none (of_entries b.buckets.entries some)) where
  of_entries : (es : List (ℕ × List T)) → IsSome (lookup (is_at (nat_cmp key)) es) → 0 < length es
  of_entries [] some = absurd (search rules)
  of_entries (e ∷ es) some = omega arith

-- the first item of a key is the first in its bucket
first_held : {T : Type 0} (b : Buckets T) (items : ℕ → List T) (key : ℕ) → Holds b items → first (unwrap_or (bucket_at b key) []) ≡ first (items key)
unfolding Holds
first_held {T = T} b items key holds = ap (λ o. first (unwrap_or o [])) (holds.1 key) ∙ by (items key) where
  by : (ns : List T) → first (unwrap_or (bucket_of ns) []) ≡ first ns
  by [] = refl
  by (n ∷ ns) = refl

-- what is found first in a key's bucket is the key's first item
pub first_found : {T : Type 0} (b : Buckets T) (items : ℕ → List T) (key : ℕ) (found : Option T) → Holds b items → found ≡ first (unwrap_or (bucket_at b key) []) → first (items key) ≡ found
first_found b items key found holds is = sym (is ∙ first_held b items key holds)

-- of a map with one entry at most there is one value at most
only_one : {T : Type 0} (key other : ℕ) (es : List (ℕ × List T)) (x y : List T) → length es ≤ 1 → lookup (is_at (nat_cmp key)) es ≡ Some x → lookup (is_at (nat_cmp other)) es ≡ Some y → y ≡ x
only_one key other [] x y few at there = absurd cc
only_one key other (e ∷ []) x y few at there = by (is_at (nat_cmp key) e.0) (is_at (nat_cmp other) e.0) at there where
  by : (s t : Bool) → cond s (Some e.1) None ≡ Some x → cond t (Some e.1) None ≡ Some y → y ≡ x
  by true true at there = cc
  by true false at there = absurd cc
  by false t at there = absurd cc
only_one key other (e ∷ f ∷ es) x y few at there = absurd (omega arith)

-- where a bucket is empty no key has items
pub none_beside : {T : Type 0} (b : Buckets T) (items : ℕ → List T) (key other : ℕ) (bucket : List T) → Holds b items → get nat_cmp b.buckets key ≡ Some bucket → bucket ≡ [] → items other ≡ []
unfolding Holds EmptyStandsAlone
none_beside {T = T} b items key other bucket holds at empty = by (get nat_cmp b.buckets other) (items other) refl (holds.1 other) where
  by : (found : Option (List T)) (xs : List T) → get nat_cmp b.buckets other ≡ found → option_and_then bucket_of (get nat_cmp b.buckets other) ≡ bucket_of xs → xs ≡ []
  by found [] is e = refl
  by None (x ∷ xs) is e = let none = sym (ap (λ o. option_and_then bucket_of o) is) ∙ e in absurd cc
  by (Some y) (x ∷ xs) is e =
      let same : y ≡ bucket = only_one key other b.buckets.entries bucket y (holds.0 key bucket at empty) at is in
      let no_items : y ≡ [] = same ∙ empty in
      let none = sym (ap (λ o. option_and_then bucket_of o) is ∙ ap (λ l. bucket_of l) no_items) ∙ e in
      absurd cc

-- where none is first, there is none
pub no_items : {T : Type 0} (xs : List T) → first xs ≡ None → xs ≡ []
no_items [] none = refl
no_items (x ∷ xs) none = absurd cc

-- where a test says so, a list isn't empty
pub not_empty : {T : Type 0} (xs : List T) (is_empty : Bool) → (xs ≡ [] → is_empty ≡ true) → is_empty ≡ false → xs ≢ []
not_empty xs is_empty says is empty = let no : true ≡ false = sym (says empty) ∙ is in absurd cc

pub none_left : {A : Type 0} (es : List A) → (0 < length es → false ≡ true) → length es ≤ 0
none_left [] none = omega arith
none_left (e ∷ es) none = absurd (both_ways false refl (none (omega arith)))

-- the only one was taken out
pub popped : {A : Type 0} (taken : Option A) (n m : ℕ) → n + cond (is_some taken) 1 0 ≡ m → IsSome taken → m ≤ 1 → n ≤ 0
popped None n m e some few = absurd (search rules)
popped (Some x) n m e some few = omega arith

-- where something is found, there is something
pub some_found : {A : Type 0} (found : Option A) (x : A) → found ≡ Some x → IsSome found
some_found found x is = rw is (search rules)

-- no bucket is empty
unfoldable pub AreFilled : {T : Type 0} → Buckets T → Type 0
AreFilled {T} buckets = (key : ℕ) (bucket : List T) → get nat_cmp buckets.buckets key ≡ Some bucket → bucket ≢ []

-- where there are no entries all buckets are filled
pub filled_of_none : {T : Type 0} (b : Buckets T) → btree_map_len b.buckets ≤ 0 → AreFilled b
unfolding AreFilled
filled_of_none {T = T} b none key bucket at = by b.buckets.entries none at where
  by : (es : List (ℕ × List T)) → length es ≤ 0 → lookup (is_at (nat_cmp key)) es ≡ Some bucket → bucket ≢ []
  by [] few found = absurd cc
  by (e ∷ es) few found = absurd (omega arith)

-- where one bucket is filled all are
pub filled_of_one : {T : Type 0} (b : Buckets T) (key : ℕ) (bucket : List T) → EmptyStandsAlone b → get nat_cmp b.buckets key ≡ Some bucket → bucket ≢ [] → AreFilled b
unfolding AreFilled EmptyStandsAlone
filled_of_one b key bucket alone at filled other found there empty =
    let same : bucket ≡ found = only_one other key b.buckets.entries found bucket (alone other found there empty) there at in
    filled (same ∙ empty)

pub alone_of_filled : {T : Type 0} (b : Buckets T) → AreFilled b → EmptyStandsAlone b
unfolding AreFilled EmptyStandsAlone
alone_of_filled b filled key bucket at empty = absurd (filled key bucket at empty)

-- the entries are the same
pub alone_as_before : {T : Type 0} (b c : Buckets T) → c.buckets.entries ≡ b.buckets.entries → EmptyStandsAlone b → EmptyStandsAlone c
unfolding EmptyStandsAlone
alone_as_before b c same alone key bucket at empty = rw same (alone key bucket (ap (λ es. lookup (is_at (nat_cmp key)) es) (sym same) ∙ at) empty)

pub few_where_empty : {T : Type 0} (b : Buckets T) (key : ℕ) (bucket : List T) → EmptyStandsAlone b → get nat_cmp b.buckets key ≡ Some bucket → bucket ≡ [] → btree_map_len b.buckets ≤ 1
unfolding EmptyStandsAlone
few_where_empty b key bucket alone at empty = alone key bucket at empty

-- a list with one more is not empty
pub pushed_is_filled : {T : Type 0} (xs ys : List T) (x : T) → ys ≡ xs ++ x ∷ [] → ys ≢ []
pushed_is_filled [] ys x is empty = let no : x ∷ [] ≡ [] = sym is ∙ empty in absurd cc
pushed_is_filled (z ∷ xs) ys x is empty = let no : z ∷ (xs ++ x ∷ []) ≡ [] = sym is ∙ empty in absurd cc

-- where the keys are as before there are as many entries
as_many : {X : Type 0} (es fs : List (ℕ × X)) → keys_of fs ≡ keys_of es → length fs ≡ length es
as_many es fs same = sym (each_a_key fs) ∙ ap (λ l. length l) same ∙ each_a_key es where
  each_a_key : {X : Type 0} (es : List (ℕ × X)) → length (keys_of es) ≡ length es
  each_a_key [] = refl
  each_a_key (e ∷ es) = let same = each_a_key es in omega arith

-- one bucket is written
pub alone_written : {T : Type 0} (b c : Buckets T) (key : ℕ) (bucket : List T) → keys c.buckets ≡ keys b.buckets
    → ((q : ℕ) → get nat_cmp c.buckets q ≡ cond (is_at (nat_cmp key) q) (Some bucket) (get nat_cmp b.buckets q))
    → EmptyStandsAlone b → (bucket ≡ [] → btree_map_len b.buckets ≤ 1) → EmptyStandsAlone c
unfolding EmptyStandsAlone
alone_written b c key bucket stay writes alone own q found at empty = by (is_at (nat_cmp key) q) (sym (writes q) ∙ at) where
  len : btree_map_len c.buckets ≡ btree_map_len b.buckets
  len = as_many b.buckets.entries c.buckets.entries stay

  by : (t : Bool) → cond t (Some bucket) (get nat_cmp b.buckets q) ≡ Some found → btree_map_len c.buckets ≤ 1
  by true e = let same : bucket ≡ found = cc in rw len (own (same ∙ empty))
  by false e = rw len (alone q found e empty)

-- one of several buckets is taken out after it was written
pub filled_without : {T : Type 0} (b c d : Buckets T) (key : ℕ) (bucket : List T) → btree_map_len c.buckets ≡ btree_map_len b.buckets → 1 < btree_map_len c.buckets
    → ((q : ℕ) → get nat_cmp c.buckets q ≡ cond (is_at (nat_cmp key) q) (Some bucket) (get nat_cmp b.buckets q))
    → ((q : ℕ) → get nat_cmp d.buckets q ≡ cond (is_at (nat_cmp key) q) None (get nat_cmp c.buckets q))
    → EmptyStandsAlone b → AreFilled d
unfolding AreFilled EmptyStandsAlone
filled_without b c d key bucket len more writes removes alone q found at empty = by (is_at (nat_cmp key) q) (sym (removes q) ∙ at) (sym (writes q)) where
  by : (t : Bool) → cond t None (get nat_cmp c.buckets q) ≡ Some found → cond t (Some bucket) (get nat_cmp b.buckets q) ≡ get nat_cmp c.buckets q → ⊥
  by true e w = absurd cc
  by false e w = let few = alone q found (w ∙ e) empty in absurd (omega arith)

-- one of several buckets is taken out
pub filled_without_key : {T : Type 0} (b d : Buckets T) (key : ℕ) → 1 < btree_map_len b.buckets
    → ((q : ℕ) → get nat_cmp d.buckets q ≡ cond (is_at (nat_cmp key) q) None (get nat_cmp b.buckets q))
    → EmptyStandsAlone b → AreFilled d
unfolding AreFilled EmptyStandsAlone
filled_without_key b d key more removes alone q found at empty = by (is_at (nat_cmp key) q) (sym (removes q) ∙ at) where
  by : (t : Bool) → cond t None (get nat_cmp b.buckets q) ≡ Some found → ⊥
  by true e = absurd cc
  by false e = let few = alone q found e empty in absurd (omega arith)

-- ---- where no bucket is empty but one key's
pub others_of_filled : {T : Type 0} (b : Buckets T) (key : ℕ) → AreFilled b → OthersAreFilled key b
unfolding AreFilled OthersAreFilled
others_of_filled b key filled other bucket at empty = absurd (filled other bucket at empty)

-- there are several
pub others_of_many : {T : Type 0} (b : Buckets T) (key : ℕ) → EmptyStandsAlone b → 1 < btree_map_len b.buckets → OthersAreFilled key b
unfolding EmptyStandsAlone OthersAreFilled
others_of_many b key alone more other bucket at empty = let few = alone other bucket at empty in absurd (omega arith)

-- there is one, which is the key's
pub others_of_own : {T : Type 0} (b : Buckets T) (key : ℕ) (own : List T) → btree_map_len b.buckets ≤ 1 → get nat_cmp b.buckets key ≡ Some own → OthersAreFilled key b
unfolding OthersAreFilled
others_of_own {T = T} b key own few at other bucket there empty = only_key b.buckets.entries few at there where
  only_key : (es : List (ℕ × List T)) → length es ≤ 1 → lookup (is_at (nat_cmp key)) es ≡ Some own → lookup (is_at (nat_cmp other)) es ≡ Some bucket → other ≡ key
  only_key [] few at there = absurd cc
  only_key (e ∷ []) few at there = by (is_at (nat_cmp key) e.0) (is_at (nat_cmp other) e.0) refl refl at there where
    by : (s t : Bool) → is_at (nat_cmp key) e.0 ≡ s → is_at (nat_cmp other) e.0 ≡ t → cond s (Some e.1) None ≡ Some own → cond t (Some e.1) None ≡ Some bucket → other ≡ key
    by true true f g at there = grind (arith, nat_tests)
    by true false f g at there = absurd cc
    by false t f g at there = absurd cc
  only_key (e ∷ f ∷ es) few at there = absurd (omega arith)

-- there is none of the key
pub filled_where_absent : {T : Type 0} (b : Buckets T) (key : ℕ) → OthersAreFilled key b → get nat_cmp b.buckets key ≡ None → AreFilled b
unfolding AreFilled OthersAreFilled
filled_where_absent b key others absent q found at empty = let no : None ≡ Some found = sym absent ∙ ap (λ k. get nat_cmp b.buckets k) (sym (others q found at empty)) ∙ at in absurd cc

-- the key's is written
pub filled_written : {T : Type 0} (b c : Buckets T) (key : ℕ) (bucket : List T) → OthersAreFilled key b
    → ((q : ℕ) → get nat_cmp c.buckets q ≡ cond (is_at (nat_cmp key) q) (Some bucket) (get nat_cmp b.buckets q))
    → bucket ≢ [] → AreFilled c
unfolding AreFilled OthersAreFilled
filled_written b c key bucket others writes own q found at empty = by (is_at (nat_cmp key) q) refl (sym (writes q) ∙ at) where
  by : (t : Bool) → is_at (nat_cmp key) q ≡ t → cond t (Some bucket) (get nat_cmp b.buckets q) ≡ Some found → ⊥
  by true is e = let same : bucket ≡ found = cc in own (same ∙ empty)
  by false is e = let same = others q found e empty in absurd (grind (arith, nat_tests))

-- no buckets hold no items
pub none_held : {T : Type 0} (b : Buckets T) (items : ℕ → List T) → ((key : ℕ) → bucket_at b key ≡ None) → EmptyStandsAlone b → ((key : ℕ) → items key ≡ []) → Holds b items
unfolding Holds
none_held b items none alone empty = (alone, λ key. none key ∙ ap (λ ns. bucket_of ns) (sym (empty key)))

-- no bucket is touched
pub still_held : {T : Type 0} (b c : Buckets T) (items : ℕ → List T) → Holds b items → ((key : ℕ) → bucket_at c key ≡ bucket_at b key) → (EmptyStandsAlone b → EmptyStandsAlone c) → Holds c items
unfolding Holds
still_held b c items holds same alone = (alone holds.0, λ key. same key ∙ holds.1 key)

-- an item enters
pub entered : {T : Type 0} (b c : Buckets T) (before after : ℕ → List T) (key : ℕ) (item : T) → Holds b before
    → ((q : ℕ) → bucket_at c q ≡ cond (q == key) (with_last item (bucket_at b q)) (bucket_at b q))
    → (EmptyStandsAlone b → EmptyStandsAlone c)
    → ((q : ℕ) → after q ≡ cond (q == key) (before q ++ item ∷ []) (before q))
    → Holds c after
unfolding Holds
entered {T = T} b c before after key item holds enters alone is = (
  alone holds.0,
  λ q.
      enters q ∙ ap (λ o. cond (q == key) (with_last item o) o) (holds.1 q) ∙ by (q == key) (before q) ∙ ap (λ ns. bucket_of ns) (sym (is q)),
) where
  by : (t : Bool) (ns : List T) → cond t (with_last item (bucket_of ns)) (bucket_of ns) ≡ bucket_of (cond t (ns ++ item ∷ []) ns)
  by true [] = refl
  by true (n ∷ ns) = refl
  by false ns = refl

-- the first item of a key leaves
pub left : {T : Type 0} (b c : Buckets T) (before after : ℕ → List T) (key : ℕ) → Holds b before
    → ((q : ℕ) → bucket_at c q ≡ cond (q == key) (without_front (bucket_at b q)) (bucket_at b q))
    → (EmptyStandsAlone b → EmptyStandsAlone c)
    → ((q : ℕ) → after q ≡ cond (q == key) (drop 1 (before q)) (before q))
    → Holds c after
unfolding Holds
left {T = T} b c before after key holds leaves alone is = (
  alone holds.0,
  λ q.
      leaves q ∙ ap (λ o. cond (q == key) (without_front o) o) (holds.1 q) ∙ by (q == key) (before q) ∙ ap (λ ns. bucket_of ns) (sym (is q)),
) where
  by : (t : Bool) (ns : List T) → cond t (without_front (bucket_of ns)) (bucket_of ns) ≡ bucket_of (cond t (drop 1 ns) ns)
  by true [] = refl
  by true (n ∷ ns) = refl
  by false ns = refl

-- the same items by another function
pub held_alike : {T : Type 0} (b : Buckets T) (items others : ℕ → List T) → Holds b items → ((key : ℕ) → others key ≡ items key) → Holds b others
unfolding Holds
held_alike b items others holds same = (holds.0, λ key. holds.1 key ∙ ap (λ ns. bucket_of ns) (sym (same key)))

-- the first item of the greatest key leaves
pub greatest_left : {T : Type 0} (b c : Buckets T) (items : ℕ → List T) (key : ℕ) (x : T) (bucket : List T) → Holds b items → get nat_cmp b.buckets key ≡ Some bucket → IsUpperBound nat_cmp b.buckets key → first bucket ≡ Some x
    → ((q : ℕ) → bucket_at c q ≡ cond (q == key) (without_front (bucket_at b q)) (bucket_at b q))
    → (EmptyStandsAlone b → EmptyStandsAlone c)
    → IsGreatestLeft items c (Some x)
greatest_left b c items key x bucket holds at upper is leaves alone = (key, first_of_last b items key x bucket holds at upper is, left b c items _ key holds leaves alone (λ q. refl))

-- the last bucket is empty, and stays so
pub none_left_of : {T : Type 0} (b c : Buckets T) (items : ℕ → List T) (key : ℕ) (bucket : List T) → Holds b items → get nat_cmp b.buckets key ≡ Some bucket → first bucket ≡ None
    → ((q : ℕ) → bucket_at c q ≡ bucket_at b q)
    → (EmptyStandsAlone b → EmptyStandsAlone c)
    → IsGreatestLeft items c None
none_left_of b c items key bucket holds at is stays alone = (λ other. none_beside b items key other bucket holds at (no_items bucket is), still_held b c items holds stays alone)
