-- What is seen of a trail: the history, the place of the oldest record that it still has, and for how many more records
-- there is room.
use Rattle.std.specs.Prelude.{ℕ}
use Rattle.ipc_terms.specs.History.{History}

pub record Log : Type 0 where
  pub history : History
  pub first : ℕ
  pub room : ℕ
