-- By which descriptions each session holds something.
use Rattle.std.specs.Prelude.{◌≡◌, Bool, ℕ, ◌+◌, List, [], Option, Some, None, map, filter, count_by, if◌then◌else◌}
use Rattle.std.specs.Ordering.{nat_cmp}
use Rattle.std.specs.BTreeMap.{BTreeMap}
use Rattle.std.specs.BTreeMap as tree
use Rattle.std.specs.BTreeSet.{BTreeSet}
use Rattle.ipc_descr.specs.declared.row.Row.{Row}
use Rattle.ipc_descr.specs.Descriptions.{number, is_of, without_desc}

-- what is in the set, if there is one
abbrev pub in_set : Option (BTreeSet ℕ) → List ℕ
in_set None = []
in_set (Some set) = set.keys

-- the numbers in the set of session s
abbrev pub numbers_of : BTreeMap ℕ (BTreeSet ℕ) → ℕ → List ℕ
numbers_of sets s = in_set (tree.get nat_cmp sets s)

-- the numbers of the rows that session s holds
abbrev pub numbers_held : List Row → ℕ → List ℕ
numbers_held rows s = map number (filter (is_of s) rows)

-- of the rows, this one is gone, once
pub record Gone (row : Row) (rows rest : List Row) : Type 0 where
  pub others : rest ≡ without_desc rows row.session.0 row.desc.0
  pub once : (p : Row → Bool) → count_by p rows ≡ (if p row then count_by p rest + 1 else count_by p rest)
