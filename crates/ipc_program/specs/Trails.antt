-- Trails in files: one that is written, one that is replayed, and one that is retold.
use Rattle.std.specs.Prelude.{ℕ, Bool, List, Option}
use Rattle.ipc_program.specs.declared.tasks.NewLimits.{NewLimits}
use Rattle.ipc_program.specs.declared.tasks.Places.{Places}

-- the path of a file that a trail is written to, whether what is written has to be on the disk before it is answered, after how many
-- bytes another file is begun, if one is, from how many on a start retells it, if one does, and whether it keeps the old files
pub record TrailFile : Type 0 where
  pub path : List ℕ
  pub is_synced : Bool
  pub segment : Option ℕ
  pub compact : Option ℕ
  pub is_kept : Bool

-- the paths of the user file and of the trail's files, of which records a line is printed, and the number of the session of whose
-- answers one is
pub record Replaying : Type 0 where
  pub users : List ℕ
  pub files : List (List ℕ)
  pub audit : Option Places
  pub answers : Option ℕ

-- the paths of the user file, of the file that retells, and of the files of the trail that is retold; and the path of the user file and
-- the limits that it is retold under, if they are others
pub record Retold : Type 0 where
  pub users : List ℕ
  pub new : List ℕ
  pub old : List (List ℕ)
  pub to : Option (List ℕ)
  pub limits : NewLimits
