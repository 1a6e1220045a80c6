-- What is kept beside the rows so that no question goes through them.
use Rattle.std.specs.Prelude.{◌≡◌, ℕ, List, count_by}
use Rattle.ipc_terms.specs.Counting.{count_of}
use Rattle.ipc_descr.specs.declared.row.Row.{Row}
use Rattle.ipc_descr.specs.declared.tallies.Tallies.{Tallies}
use Rattle.ipc_descr.specs.Descriptions.{is_to}
use Rattle.ipc_descr.specs.Counting.{numbers_of, numbers_held}

-- session by session the set has the numbers of the rows, and object by object the count has the rows
pub record Agrees (tallies : Tallies) (rows : List Row) : Type 0 where
  pub sets : (s : ℕ) → numbers_of tallies.sets s ≡ numbers_held rows s
  pub counts : (o : ℕ) → count_of tallies.counts o ≡ count_by (is_to o) rows
