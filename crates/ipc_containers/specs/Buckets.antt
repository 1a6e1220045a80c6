-- Items in buckets by key.
use Rattle.std.specs.Prelude.{◌≡◌, ℕ, ◌<◌, ◌≤◌, ◌==◌, List, [], ◌∷◌, ◌++◌, drop, Option, Some, None, option_and_then, if◌then◌else◌}
use Rattle.std.specs.Option.{unwrap_or}
use Rattle.std.specs.Ordering.{nat_cmp}
use Rattle.std.specs.BTreeMap.{get, btree_map_len}
use Rattle.ipc_containers.specs.declared.buckets.Buckets.{Buckets}

-- the bucket of these items: none where there is no item
abbrev pub bucket_of : {T : Type 0} → List T → Option (List T)
bucket_of [] = None
bucket_of (item ∷ items) = Some (item ∷ items)

-- what stands in the bucket of this key: nothing where it is empty
abbrev pub bucket_at : {T : Type 0} → Buckets T → ℕ → Option (List T)
bucket_at buckets key = option_and_then bucket_of (get nat_cmp buckets.buckets key)

-- the bucket with one more item at its end
abbrev pub with_last : {T : Type 0} → T → Option (List T) → Option (List T)
with_last item bucket = Some (unwrap_or bucket [] ++ item ∷ [])

-- the bucket without its first item
abbrev pub without_front : {T : Type 0} → Option (List T) → Option (List T)
without_front None = None
without_front (Some items) = bucket_of (drop 1 items)

-- no bucket is empty but this key's
unfoldable pub OthersAreFilled : {T : Type 0} → ℕ → Buckets T → Type 0
OthersAreFilled {T} key buckets = (other : ℕ) (bucket : List T) → get nat_cmp buckets.buckets other ≡ Some bucket → bucket ≡ [] → other ≡ key

-- a bucket that is empty is the only one
unfoldable pub EmptyStandsAlone : {T : Type 0} → Buckets T → Type 0
EmptyStandsAlone {T} buckets = (key : ℕ) (bucket : List T) → get nat_cmp buckets.buckets key ≡ Some bucket → bucket ≡ [] → btree_map_len buckets.buckets ≤ 1

-- each key's bucket has its items in their order, and an empty one is the only one
unfoldable pub Holds : {T : Type 0} → Buckets T → (ℕ → List T) → Type 0
Holds buckets items = EmptyStandsAlone buckets × ((key : ℕ) → bucket_at buckets key ≡ bucket_of (items key))

-- the greatest key that has items, with the first of them; none where no key has any
abbrev pub IsFirstOfGreatest : {T : Type 0} → (ℕ → List T) → Option (ℕ × T) → Type 0
IsFirstOfGreatest items None = (key : ℕ) → items key ≡ []
IsFirstOfGreatest {T} items (Some (key, item)) = ((rest : List T) × (items key ≡ item ∷ rest)) × ((other : ℕ) → key < other → items other ≡ [])

-- the first item of the greatest key is this, and the others stand in these buckets; none where no key has any
abbrev pub IsGreatestLeft : {T : Type 0} → (ℕ → List T) → Buckets T → Option T → Type 0
IsGreatestLeft items others None = ((key : ℕ) → items key ≡ []) × Holds others items
IsGreatestLeft items others (Some item) = (key : ℕ) × IsFirstOfGreatest items (Some (key, item)) × Holds others (λ q. if q == key then drop 1 (items q) else items q)

-- the least key from this one on that has items; none where no key from there on has any
abbrev pub IsNextKey : {T : Type 0} → (ℕ → List T) → ℕ → Option ℕ → Type 0
IsNextKey items from None = (key : ℕ) → from ≤ key → items key ≡ []
IsNextKey {T} items from (Some next) = (from ≤ next) × ((item : T) × (rest : List T) × (items next ≡ item ∷ rest)) × ((key : ℕ) → from ≤ key → key < next → items key ≡ [])
