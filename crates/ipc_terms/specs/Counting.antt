-- How many there are at each key of a map.
use Rattle.std.specs.Prelude.{ℕ, unwrap_or}
use Rattle.std.specs.Ordering.{nat_cmp}
use Rattle.std.specs.BTreeMap.{BTreeMap}
use Rattle.std.specs.BTreeMap as tree

-- the count at a key; nothing there is none
abbrev pub count_of : BTreeMap ℕ ℕ → ℕ → ℕ
count_of counts key = unwrap_or (tree.get nat_cmp counts key) 0
