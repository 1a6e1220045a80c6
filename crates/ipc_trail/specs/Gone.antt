-- The records that were forgotten.
use Rattle.std.specs.Prelude.{List, [], ◌∷◌}
use Rattle.ipc_terms.specs.declared.record.Record.{Record}
use Rattle.ipc_trail.specs.declared.trail.Gone.{Gone}
use Rattle.ipc_trail.specs.declared.trail.Gone.TheVariants.{Nothing, Also'}

-- the newest first
abbrev pub gone_records : Gone → List Record
gone_records Nothing = []
gone_records (Also' oldest _ _ before) = oldest.value ∷ gone_records before
