-- What stands at the numbers when the older values change, and what that makes of the list of all.
use Rattle.std.proofs.Common.{◌≡◌, ◌≢◌, ◌∙◌, ⊎_elim, nat_lt, Bool, true, false, cond, ℕ, zero, suc, ◌+◌, ◌-◌, take, ◌<◌, ◌≤◌, ◌==◌, List, [], ◌∷◌, ◌++◌, length, slice_get, Option, Some, None, refl, sym, ap, subst, arith, IsSome, is_some}
use Rattle.std.specs.Ordering.{nat_cmp}
use Rattle.std.specs.BTreeMap.{BTreeMap, keys, get, is_at}
use Rattle.std.specs.BTreeMap.Range.{IsLeBy, IsEntryInRange, IsRangeOf}
use Rattle.std.specs.Map.{lookup, keys_of}
use Rattle.std.specs.Option.{IfSome, option_and_then}
use Rattle.std.specs.declared.ops.Bound.TheVariants.{Included, Unbounded}
use Rattle.std.proofs.lemmas.Option.{slice_get_past}
use Rattle.std.proofs.lemmas.Bool.{cases_lt}
use Rattle.std.proofs.lemmas.Bool.Decides.{nat_tests}
use Rattle.std.proofs.lemmas.List.{length_push, length-append, append_assoc, append-nil}
use Rattle.ipc_terms.specs.Lists.{changed}
use Rattle.ipc_containers.specs.Slots.{at, how_many_filled, most_slots, IsNextFrom}
use Rattle.ipc_containers.specs.Numbers.{older_slots, AllBelow}
use Rattle.ipc_containers.proofs.SlotsLemmas.{filled_append}

-- ---- the values below a number

pub older_length : {V : Type 0} (m : BTreeMap ℕ V) (n : ℕ) → length (older_slots m n) ≡ n
older_length m zero = refl
older_length m (suc n) = length_push (older_slots m n) (get nat_cmp m n) ∙ omega (arith, older_length m n)

older_next : {V : Type 0} (m : BTreeMap ℕ V) (n : ℕ) → older_slots m (n + 1) ≡ older_slots m n ++ get nat_cmp m n ∷ []
older_next m n = ap (older_slots m) (let e : n + 1 ≡ suc n = omega arith in e)

-- where the same stands at each number below one, the slots are the same
pub older_same : {V : Type 0} (m k : BTreeMap ℕ V) (n : ℕ) → ((i : ℕ) → i < n → get nat_cmp k i ≡ get nat_cmp m i) → older_slots k n ≡ older_slots m n
older_same m k zero same = refl
older_same m k (suc n) same = rw (older_same m k n (λ i (l : i < n). same i (omega arith)), same n (omega arith)) refl

-- ---- the map changes at one number

is_at_number : (d q : ℕ) → is_at (nat_cmp d) q ≡ (d == q)
is_at_number d q = grind (arith, nat_tests)

pub updated : {V : Type 0} (m k : BTreeMap ℕ V) (i : ℕ) (w : Option V) → ((q : ℕ) → get nat_cmp k q ≡ cond (is_at (nat_cmp i) q) w (get nat_cmp m q)) → get nat_cmp k i ≡ w
updated m k i w updates = updates i ∙ ap (λ b. cond b w (get nat_cmp m i)) (is_at_number i i ∙ (let same : (i == i) ≡ true = grind (arith, nat_tests) in same))

pub others_stay : {V : Type 0} (m k : BTreeMap ℕ V) (i : ℕ) (w : Option V) → ((q : ℕ) → get nat_cmp k q ≡ cond (is_at (nat_cmp i) q) w (get nat_cmp m q)) → (j : ℕ) → j ≢ i → get nat_cmp k j ≡ get nat_cmp m j
others_stay m k i w updates j apart = updates j ∙ ap (λ b. cond b w (get nat_cmp m j)) (is_at_number i j ∙ by (i == j) refl) where
  by : (b : Bool) → (i == j) ≡ b → (i == j) ≡ false
  by true test = absurd (apart (let e : j ≡ i = grind (arith, nat_tests) in e))
  by false test = test

pub same_entries : {V : Type 0} (m k : BTreeMap ℕ V) → k.entries ≡ m.entries → (j : ℕ) → get nat_cmp k j ≡ get nat_cmp m j
same_entries m k same j = ap (lookup (is_at (nat_cmp j))) same

-- where the keys are the same, none stands where none stood
absent_alike : {V : Type 0} (p : ℕ → Bool) (es fs : List (ℕ × V)) → keys_of fs ≡ keys_of es → lookup p es ≡ None → lookup p fs ≡ None
absent_alike p [] [] e none = refl
absent_alike p [] (f ∷ fs) e none = absurd cc
absent_alike p (x ∷ es) [] e none = absurd cc
absent_alike p (x ∷ es) (f ∷ fs) e none =
    let key : f.0 ≡ x.0 = cc in
    let keys' : keys_of fs ≡ keys_of es = cc in
    ap (λ k. cond (p k) (Some f.1) (lookup p fs)) key ∙ by (p x.0) none (λ behind. absent_alike p es fs keys' behind) where
      by : (b : Bool) → cond b (Some x.1) (lookup p es) ≡ None → (lookup p es ≡ None → lookup p fs ≡ None) → cond b (Some f.1) (lookup p fs) ≡ None
      by true e rest = absurd cc
      by false e rest = rest e

pub keys_below : {V : Type 0} (m k : BTreeMap ℕ V) (n : ℕ) → keys k ≡ keys m → AllBelow m n → AllBelow k n
keys_below m k n same below j le = absent_alike (is_at (nat_cmp j)) m.entries k.entries same (below j le)

-- and as many stand
filled_alike : {V : Type 0} (was is : Option V) → (was ≡ None → is ≡ None) → (is ≡ None → was ≡ None) → how_many_filled (is ∷ []) ≡ how_many_filled (was ∷ [])
filled_alike None None there back = refl
filled_alike (Some x) (Some y) there back = refl
filled_alike None (Some y) there back = absurd (let none = there refl in cc)
filled_alike (Some x) None there back = absurd (let none = back refl in cc)

older_filled : {V : Type 0} (m k : BTreeMap ℕ V) (n : ℕ) → keys k ≡ keys m → how_many_filled (older_slots k n) ≡ how_many_filled (older_slots m n)
older_filled m k zero same = refl
older_filled m k (suc n) same =
    let rest = older_filled m k n same in
    let before = filled_append (older_slots m n) (get nat_cmp m n ∷ []) in
    let after = filled_append (older_slots k n) (get nat_cmp k n ∷ []) in
    let last = filled_alike (get nat_cmp m n) (get nat_cmp k n) (absent_alike (is_at (nat_cmp n)) m.entries k.entries same) (absent_alike (is_at (nat_cmp n)) k.entries m.entries (sym same)) in
    omega arith

pub same_most : {V : Type 0} (m k : BTreeMap ℕ V) (n : ℕ) (recent : List (Option V)) → keys k ≡ keys m → most_slots (older_slots k n ++ recent) ≡ most_slots (older_slots m n ++ recent)
same_most m k n recent same =
    let before = filled_append (older_slots m n) recent in
    let after = filled_append (older_slots k n) recent in
    let alike = older_filled m k n same in
    omega arith

pub under : (number base : ℕ) → (base ≤ number → ⊥) → number < base
under number base above = ⊎_elim (λ less. less) (λ past. absurd (above past)) (cases_lt number base)

-- a value below the number changes, or goes
pub still_below : {V : Type 0} (m k : BTreeMap ℕ V) (n i : ℕ) (w : Option V) → i < n → ((q : ℕ) → get nat_cmp k q ≡ cond (is_at (nat_cmp i) q) w (get nat_cmp m q)) → AllBelow m n → AllBelow k n
still_below m k n i w l updates below j le = others_stay m k i w updates j (λ (e : j ≡ i). omega arith) ∙ below j le

-- the value right below the number goes
pub removed_below : {V : Type 0} (m k : BTreeMap ℕ V) (n : ℕ) → ((q : ℕ) → get nat_cmp k q ≡ cond (is_at (nat_cmp n) q) None (get nat_cmp m q)) → AllBelow m (n + 1) → AllBelow k n
removed_below m k n updates below j le = updates j ∙ ap (λ b. cond b None (get nat_cmp m j)) (is_at_number n j) ∙ by (n == j) refl where
  by : (b : Bool) → (n == j) ≡ b → cond b None (get nat_cmp m j) ≡ None
  by true test = refl
  by false test = below j (let apart : n + 1 ≤ j = grind (arith, nat_tests) in apart)

-- ---- a slot among the first, or behind them

at_before : {V : Type 0} (xs ys : List (Option V)) (i : ℕ) → i < length xs → at (xs ++ ys) i ≡ at xs i
at_before [] ys i l = absurd (omega arith)
at_before (x ∷ xs) ys zero l = refl
at_before (x ∷ xs) ys (suc i) l = at_before xs ys i (omega arith)

at_behind : {V : Type 0} (xs ys : List (Option V)) (n i : ℕ) → n ≡ length xs + i → at (xs ++ ys) n ≡ at ys i
at_behind [] ys n i e = ap (at ys) (let same : n ≡ i = omega arith in same)
at_behind (x ∷ xs) ys zero i e = absurd (omega arith)
at_behind (x ∷ xs) ys (suc n) i e = at_behind xs ys n i (omega arith)

-- what stands there, empty or not
slot_behind : {X : Type 0} (xs ys : List X) (n i : ℕ) → n ≡ length xs + i → slice_get (xs ++ ys) n ≡ slice_get ys i
slot_behind [] ys n i e = ap (slice_get ys) (let same : n ≡ i = omega arith in same)
slot_behind (x ∷ xs) ys zero i e = absurd (omega arith)
slot_behind (x ∷ xs) ys (suc n) i e = slot_behind xs ys n i (omega arith)

changed_before : {A : Type 0} (change : A → A) (xs ys : List A) (k : ℕ) → k < length xs → changed change (xs ++ ys) k ≡ changed change xs k ++ ys
changed_before change [] ys k l = absurd (omega arith)
changed_before change (x ∷ xs) ys zero l = refl
changed_before change (x ∷ xs) ys (suc k) l = ap (λ zs. x ∷ zs) (changed_before change xs ys k (omega arith))

changed_behind : {A : Type 0} (change : A → A) (xs ys : List A) (n k : ℕ) → n ≡ length xs + k → changed change (xs ++ ys) n ≡ xs ++ changed change ys k
changed_behind change [] ys n k e = ap (changed change ys) (let same : n ≡ k = omega arith in same)
changed_behind change (x ∷ xs) ys zero k e = absurd (omega arith)
changed_behind change (x ∷ xs) ys (suc n) k e = ap (λ zs. x ∷ zs) (changed_behind change xs ys n k (omega arith))

-- ---- the value at a number

-- a recent one
pub recent_at : {V : Type 0} (m : BTreeMap ℕ V) (recent : List (Option V)) (base i number : ℕ) → number ≡ base + i → at (older_slots m base ++ recent) number ≡ at recent i
recent_at m recent base i number e = at_behind (older_slots m base) recent number i (let k = older_length m base in omega arith)

-- and its slot
pub recent_slot : {V : Type 0} (m : BTreeMap ℕ V) (recent : List (Option V)) (base i number : ℕ) → number ≡ base + i → slice_get (older_slots m base ++ recent) number ≡ slice_get recent i
recent_slot m recent base i number e = slot_behind (older_slots m base) recent number i (let k = older_length m base in omega arith)

-- an older one
older_at : {V : Type 0} (m : BTreeMap ℕ V) (n i : ℕ) → i < n → at (older_slots m n) i ≡ get nat_cmp m i
older_at m zero i l = absurd (omega arith)
older_at m (suc n) i l = by (nat_lt i n) refl (λ below. older_at m n i below) where
  by : (b : Bool) → nat_lt i n ≡ b → (i < n → at (older_slots m n) i ≡ get nat_cmp m i) → at (older_slots m n ++ get nat_cmp m n ∷ []) i ≡ get nat_cmp m i
  by true test rest =
      let below : i < n = grind (arith, nat_tests) in
      at_before (older_slots m n) (get nat_cmp m n ∷ []) i (let e = older_length m n in omega arith) ∙ rest below
  by false test rest =
      let last : i ≡ n = grind (arith, nat_tests) in
      recent_at m (get nat_cmp m n ∷ []) n 0 i (omega arith) ∙ ap (get nat_cmp m) (sym last)

pub value_at : {V : Type 0} (m : BTreeMap ℕ V) (recent : List (Option V)) (base number : ℕ) → number < base → at (older_slots m base ++ recent) number ≡ get nat_cmp m number
value_at m recent base number l = at_before (older_slots m base) recent number (let e = older_length m base in omega arith) ∙ older_at m base number l

-- ---- a slot changes

pub recent_changed : {V : Type 0} (change : Option V → Option V) (m : BTreeMap ℕ V) (recent : List (Option V)) (base i number : ℕ) → number ≡ base + i → changed change (older_slots m base ++ recent) number ≡ older_slots m base ++ changed change recent i
recent_changed change m recent base i number e = changed_behind change (older_slots m base) recent number i (let k = older_length m base in omega arith)

older_changed : {V : Type 0} (change : Option V → Option V) (m k : BTreeMap ℕ V) (n i : ℕ) → i < n → get nat_cmp k i ≡ change (get nat_cmp m i) → ((j : ℕ) → j ≢ i → get nat_cmp k j ≡ get nat_cmp m j) → older_slots k n ≡ changed change (older_slots m n) i
older_changed change m k zero i l here others = absurd (omega arith)
older_changed change m k (suc n) i l here others = by (nat_lt i n) refl (λ below. older_changed change m k n i below here others) where
  by : (b : Bool) → nat_lt i n ≡ b → (i < n → older_slots k n ≡ changed change (older_slots m n) i) → older_slots k n ++ get nat_cmp k n ∷ [] ≡ changed change (older_slots m n ++ get nat_cmp m n ∷ []) i
  by true test rest =
      let below : i < n = grind (arith, nat_tests) in
      rw (changed_before change (older_slots m n) (get nat_cmp m n ∷ []) i (let e = older_length m n in omega arith), ← rest below, others n (λ (e : n ≡ i). omega arith)) refl
  by false test rest =
      let last : i ≡ n = grind (arith, nat_tests) in
      let same = older_same m k n (λ j (less : j < n). others j (λ (e : j ≡ i). omega arith)) in
      let value = subst (λ j. get nat_cmp k j ≡ change (get nat_cmp m j)) last here in
      rw (recent_changed change m (get nat_cmp m n ∷ []) n 0 i (omega arith), same, value) refl

-- an older value changes
pub value_changed : {V : Type 0} (change : Option V → Option V) (m k : BTreeMap ℕ V) (recent : List (Option V)) (base i : ℕ) (w : Option V) → i < base → ((q : ℕ) → get nat_cmp k q ≡ cond (is_at (nat_cmp i) q) w (get nat_cmp m q)) → w ≡ change (get nat_cmp m i) → older_slots k base ++ recent ≡ changed change (older_slots m base ++ recent) i
value_changed change m k recent base i w l updates is =
    ap (λ slots. slots ++ recent) (older_changed change m k base i l (updated m k i w updates ∙ is) (others_stay m k i w updates))
    ∙ sym (changed_before change (older_slots m base) recent i (let e = older_length m base in omega arith))

-- ---- a push, and its undoing

pub pushed : {V : Type 0} (m : BTreeMap ℕ V) (recent : List (Option V)) (base : ℕ) (x : Option V) → older_slots m base ++ (recent ++ x ∷ []) ≡ (older_slots m base ++ recent) ++ x ∷ []
pushed m recent base x = sym (append_assoc (older_slots m base) recent (x ∷ []))

pub all_length : {V : Type 0} (m : BTreeMap ℕ V) (recent : List (Option V)) (base : ℕ) → length (older_slots m base ++ recent) ≡ base + length recent
all_length m recent base = length-append (older_slots m base) recent ∙ omega (arith, older_length m base)

take_behind : {A : Type 0} (xs ys : List A) (n k : ℕ) → n ≡ length xs + k → take n (xs ++ ys) ≡ xs ++ take k ys
take_behind [] ys n k e = ap (λ m. take m ys) (let same : n ≡ k = omega arith in same)
take_behind (x ∷ xs) ys zero k e = absurd (omega arith)
take_behind (x ∷ xs) ys (suc n) k e = ap (λ zs. x ∷ zs) (take_behind xs ys n k (omega arith))

-- the last of the recent slots goes
pub popped : {V : Type 0} (m : BTreeMap ℕ V) (recent : List (Option V)) (base : ℕ) → 0 < length recent → older_slots m base ++ take (length recent - 1) recent ≡ take (length (older_slots m base ++ recent) - 1) (older_slots m base ++ recent)
popped m recent base some = sym (take_behind (older_slots m base) recent (length (older_slots m base ++ recent) - 1) (length recent - 1) (let a = all_length m recent base in let b = older_length m base in omega arith))

-- there are no recent slots, and the last of the older ones goes
pub older_popped : {V : Type 0} (m k : BTreeMap ℕ V) (recent : List (Option V)) (n last : ℕ) → length recent ≡ 0 → n ≡ last + 1 → ((q : ℕ) → get nat_cmp k q ≡ cond (is_at (nat_cmp last) q) None (get nat_cmp m q)) → older_slots k last ++ take (length recent - 1) recent ≡ take (length (older_slots m n ++ recent) - 1) (older_slots m n ++ recent)
older_popped m k (x ∷ recent) n last none e updates = absurd (omega arith)
older_popped m k [] n last none e updates =
    let all = ap (older_slots m) e ∙ older_next m last in
    ap (λ slots. slots ++ []) (older_same m k last (λ i (l : i < last). others_stay m k last None updates i (λ (same : i ≡ last). omega arith)))
    ∙ popped m (get nat_cmp m last ∷ []) last (omega arith)
    ∙ ap (λ slots. take (length slots - 1) slots) (sym all ∙ sym (append-nil (older_slots m n)))

-- there is nothing
pub none_popped : {V : Type 0} (m : BTreeMap ℕ V) (recent : List (Option V)) (n : ℕ) → length recent ≡ 0 → n ≡ 0 → older_slots m n ++ take (length recent - 1) recent ≡ take (length (older_slots m n ++ recent) - 1) (older_slots m n ++ recent)
none_popped m (x ∷ recent) n none e = absurd (omega arith)
none_popped m [] (suc n) none e = absurd (omega arith)
none_popped m [] zero none e = refl

-- ---- the first of the recent slots becomes an older one

pub settled : {V : Type 0} (m k : BTreeMap ℕ V) (recent rest : List (Option V)) (base : ℕ) → recent ≡ get nat_cmp k base ∷ rest → ((i : ℕ) → i < base → get nat_cmp k i ≡ get nat_cmp m i) → older_slots k (base + 1) ++ rest ≡ older_slots m base ++ recent
settled m k recent rest base is same =
    rw (is, older_next k base, older_same m k base same) (append_assoc (older_slots m base) (get nat_cmp k base ∷ []) rest)

-- ---- the next value

at_most : (a b : ℕ) → IsLeBy nat_cmp a b → a ≤ b
at_most a b le = grind (arith, nat_tests)

from_on : (a b : ℕ) → a ≤ b → IsLeBy nat_cmp a b
from_on a b le = grind (arith, nat_tests)

-- an older one: the first in the map from the number on
pub next_older : {V : Type 0} (m : BTreeMap ℕ V) (recent : List (Option V)) (base from next : ℕ) (x : V) (part rest : List (ℕ × V)) → AllBelow m base → IsRangeOf nat_cmp (Included from) Unbounded m part → part ≡ (next, x) ∷ rest → IsNextFrom (older_slots m base ++ recent) from (Some next)
next_older {V = V} m recent base from next x part rest below range is = (
  at_most from next first.0.0,
  subst IsSome (sym (value_at m recent base next less ∙ first.1)) refl,
  λ n le lt. value_at m recent base n (omega (arith, lt, less)) ∙ none n le lt (get nat_cmp m n) refl,
) where
  first : IsEntryInRange nat_cmp (Included from) Unbounded m (next, x)
  first = subst (λ p. IfSome (slice_get p 0) (IsEntryInRange nat_cmp (Included from) Unbounded m)) is range.1

  less : next < base
  less = under next base (λ past. let absent = below next past in let there = first.1 in cc)

  none : (n : ℕ) → from ≤ n → n < next → (there : Option V) → get nat_cmp m n ≡ there → get nat_cmp m n ≡ None
  none n le lt None e = e
  none n le lt (Some y) e = let least = at_most next n (subst (λ p. IfSome (slice_get p 0) (λ f. IsLeBy nat_cmp f.0 n)) is (range.2 n (from_on from n le, tt) (subst IsSome (sym e) refl))) in absurd (omega arith)

-- there is none in the map
pub none_older : {V : Type 0} (m : BTreeMap ℕ V) (from : ℕ) (part : List (ℕ × V)) → IsRangeOf nat_cmp (Included from) Unbounded m part → part ≡ [] → (n : ℕ) → from ≤ n → get nat_cmp m n ≡ None
none_older m from part range none n le = range.5 none n (from_on from n le, tt)

-- where there is no older one from a number on, there is none where no recent slot has one
none_at : {V : Type 0} (m : BTreeMap ℕ V) (recent : List (Option V)) (base from slot n : ℕ) → ((i : ℕ) → from ≤ i → get nat_cmp m i ≡ None) → slot ≡ from - base → from ≤ n → (base ≤ n → slot ≤ n - base → at recent (n - base) ≡ None) → at (older_slots m base ++ recent) n ≡ None
none_at m recent base from slot n older first le empty = ⊎_elim (λ (less : n < base). value_at m recent base n less ∙ older n le) (λ (past : base ≤ n). recent_at m recent base (n - base) n (omega arith) ∙ empty past (omega arith)) (cases_lt n base)

-- the next one is a recent one
pub next_recent : {V : Type 0} (m : BTreeMap ℕ V) (recent : List (Option V)) (base from slot next : ℕ) → ((i : ℕ) → from ≤ i → get nat_cmp m i ≡ None) → slot ≡ from - base → IsNextFrom recent slot (Some next) → IsNextFrom (older_slots m base ++ recent) from (Some (base + next))
next_recent m recent base from slot next older first is = (
  (let within = is.0 in omega arith),
  subst IsSome (sym (recent_at m recent base next (base + next) refl)) is.1,
  λ n le lt. none_at m recent base from slot n older first le (λ past above. is.2 (n - base) above (omega arith)),
)

-- there is none
pub next_none : {V : Type 0} (m : BTreeMap ℕ V) (recent : List (Option V)) (base from slot : ℕ) → ((i : ℕ) → from ≤ i → get nat_cmp m i ≡ None) → slot ≡ from - base → IsNextFrom recent slot None → IsNextFrom (older_slots m base ++ recent) from None
next_none m recent base from slot older first is n le = none_at m recent base from slot n older first le (λ past above. is (n - base) above)

-- a slot that has a value is there
pub value_within : {V : Type 0} (slots : List (Option V)) (n : ℕ) → IsSome (at slots n) → n < length slots
value_within slots n some = under n (length slots) (λ past. let none = ap (option_and_then (λ x. x)) (slice_get_past slots n past) in let there : true ≡ false = sym some ∙ ap is_some none in cc)
