-- What a server is told.
use Rattle.std.specs.Prelude.{◌≤◌, ⊤, ℕ, List, Option, MatchOption}
use Rattle.ipc_policy.specs.declared.config.Limits.{Limits}
use Rattle.ipc_program.specs.Trails.{TrailFile}
use Rattle.ipc_program.specs.declared.tasks.Kept.{Kept}
use Rattle.ipc_program.specs.declared.tasks.Threading.{Threading}
use Rattle.ipc_program.specs.declared.tasks.Threading.TheVariants.{OneThread, Workers}

-- the path of the user file, the address, the permission bits of a socket's file, on what threads it serves, after how many
-- connections it ends, the path of the log, at which address its numbers are read, how many seconds pass between two lines of them in the log, where
-- the trail is written to, and the limits
pub record Serving : Type 0 where
  pub users : List ℕ
  pub address : List ℕ
  pub socket_mode : ℕ
  pub threading : Threading
  pub stop_after : Option ℕ
  pub log : Option (List ℕ)
  pub metrics : Option (List ℕ)
  pub stats : Option ℕ
  pub trail : Option TrailFile
  pub limits : Limits

-- all records, or 1,000 or more
abbrev pub IsEnough : Kept → Type 0
IsEnough kept = MatchOption kept.records ⊤ (λ records. 1000 ≤ records)

-- 1 to 64 workers; room for a connection or more, and enough records
abbrev pub IsWithin : Threading → Type 0
IsWithin (Workers workers) = (1 ≤ workers) × (workers ≤ 64)
IsWithin (OneThread connections kept) = (1 ≤ connections) × IsEnough kept
