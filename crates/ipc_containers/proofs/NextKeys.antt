-- The first bucket from a key on has the next key that has items.
use Rattle.std.proofs.Common.{◌≡◌, ◌≢◌, ℕ, ◌<◌, ◌≤◌, List, [], ◌∷◌, Option, Some, None, refl, sym, ap, subst, ◌∙◌, slice_get, IsSome, arith}
use Rattle.std.proofs.lemmas.Bool.Decides.{nat_tests}
use Rattle.std.specs.Option.{IfSome, option_and_then}
use Rattle.std.specs.Ordering.{nat_cmp}
use Rattle.std.specs.BTreeMap.{BTreeMap, get}
use Rattle.std.specs.BTreeMap.Range.{IsLeBy, IsEntryInRange, IsRangeOf}
use Rattle.std.specs.declared.ops.Bound.TheVariants.{Included, Unbounded}
use Rattle.ipc_containers.specs.declared.buckets.Buckets.{Buckets}
use Rattle.ipc_containers.specs.Buckets.{bucket_at, bucket_of, Holds, IsNextKey}
use Rattle.ipc_containers.proofs.Holding.{none_beside}
use Rattle.ipc_containers.proofs.NumbersLemmas.{none_older}

at_most : (a b : ℕ) → IsLeBy nat_cmp a b → a ≤ b
at_most a b le = grind (arith, nat_tests)

from_on : (a b : ℕ) → a ≤ b → IsLeBy nat_cmp a b
from_on a b le = grind (arith, nat_tests)

-- what is first in the map from a number on
first_there : {V : Type 0} (m : BTreeMap ℕ V) (from next : ℕ) (x : V) (part rest : List (ℕ × V)) → IsRangeOf nat_cmp (Included from) Unbounded m part → part ≡ (next, x) ∷ rest → IsEntryInRange nat_cmp (Included from) Unbounded m (next, x)
first_there m from next x part rest range is = subst (λ p. IfSome (slice_get p 0) (IsEntryInRange nat_cmp (Included from) Unbounded m)) is range.1

none_between : {V : Type 0} (m : BTreeMap ℕ V) (from next : ℕ) (x : V) (part rest : List (ℕ × V)) → IsRangeOf nat_cmp (Included from) Unbounded m part → part ≡ (next, x) ∷ rest → (n : ℕ) → from ≤ n → n < next → get nat_cmp m n ≡ None
none_between {V = V} m from next x part rest range is n le lt = none (get nat_cmp m n) refl where
  none : (there : Option V) → get nat_cmp m n ≡ there → get nat_cmp m n ≡ None
  none None e = e
  none (Some y) e = let least = at_most next n (subst (λ p. IfSome (slice_get p 0) (λ f. IsLeBy nat_cmp f.0 n)) is (range.2 n (from_on from n le, tt) (subst IsSome (sym e) refl))) in absurd (omega arith)

-- a key without a bucket has no items
no_items_at : {T : Type 0} (b : Buckets T) (items : ℕ → List T) (key : ℕ) → Holds b items → get nat_cmp b.buckets key ≡ None → items key ≡ []
unfolding Holds
no_items_at {T = T} b items key holds none = at (items key) (sym (holds.1 key) ∙ ap (option_and_then bucket_of) none) where
  at : (xs : List T) → bucket_of xs ≡ None → xs ≡ []
  at [] e = refl
  at (x ∷ xs) e = absurd cc

-- one whose bucket isn't empty has some
items_at : {T : Type 0} (b : Buckets T) (items : ℕ → List T) (key : ℕ) (bucket : List T) → Holds b items → get nat_cmp b.buckets key ≡ Some bucket → bucket ≢ [] → (item : T) × (rest : List T) × (items key ≡ item ∷ rest)
unfolding Holds
items_at {T = T} b items key bucket holds there some = same bucket (items key) some (sym (holds.1 key) ∙ ap (option_and_then bucket_of) there) where
  same : (ys xs : List T) → ys ≢ [] → bucket_of xs ≡ bucket_of ys → (item : T) × (rest : List T) × (xs ≡ item ∷ rest)
  same [] xs ne e = absurd (ne refl)
  same (y ∷ ys) [] ne e = absurd cc
  same (y ∷ ys) (z ∷ zs) ne e = (z, zs, refl)

pub next_key : {T : Type 0} (b : Buckets T) (items : ℕ → List T) (from next : ℕ) (bucket : List T) (part rest : List (ℕ × List T)) → Holds b items → IsRangeOf nat_cmp (Included from) Unbounded b.buckets part → part ≡ (next, bucket) ∷ rest → bucket ≢ [] → IsNextKey items from (Some next)
next_key b items from next bucket part rest holds range is some =
    let first = first_there b.buckets from next bucket part rest range is in
    (at_most from next first.0.0, items_at b items next bucket holds first.1 some, λ n le lt. no_items_at b items n holds (none_between b.buckets from next bucket part rest range is n le lt))

-- the only bucket is empty
pub no_key_beside : {T : Type 0} (b : Buckets T) (items : ℕ → List T) (from next : ℕ) (bucket : List T) (part rest : List (ℕ × List T)) → Holds b items → IsRangeOf nat_cmp (Included from) Unbounded b.buckets part → part ≡ (next, bucket) ∷ rest → bucket ≡ [] → IsNextKey items from None
no_key_beside b items from next bucket part rest holds range is none n le = none_beside b items next n bucket holds (first_there b.buckets from next bucket part rest range is).1 none

pub no_key : {T : Type 0} (b : Buckets T) (items : ℕ → List T) (from : ℕ) (part : List (ℕ × List T)) → Holds b items → IsRangeOf nat_cmp (Included from) Unbounded b.buckets part → part ≡ [] → IsNextKey items from None
no_key b items from part holds range is n le = no_items_at b items n holds (none_older b.buckets from part range is n le)
