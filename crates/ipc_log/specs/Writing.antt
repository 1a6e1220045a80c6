-- Records on their way into a file.
use Rattle.std.specs.Prelude.{◌≡◌, ℕ, ◌+◌, zero, suc, List, [], ◌++◌, Option, Some, option_and_then}
use Rattle.std.specs.Io.KnownBytes.{Appends}
use Rattle.ipc_terms.specs.History.{History, record_at}
use Rattle.ipc_fields.specs.Field.{◌⊕◌}
use Rattle.ipc_log.specs.Trail.{spell_record}

-- what is spelled and isn't written, and how many records are spelled
pub record Pending : Type 0 where
  pub left : List ℕ
  pub spelled : ℕ

-- what spells the record of a place, if one is there
abbrev pub spell_place : ℕ → History → Option (List ℕ)
spell_place place h = option_and_then (spell_record place) (record_at place h)

-- what spells the records of so many places from this one on, one behind the other
abbrev pub spell_places : ℕ → ℕ → History → Option (List ℕ)
spell_places from zero h = Some []
spell_places from (suc count) h = spell_places from count h ⊕ spell_place (from + count) h

-- so many records of the history are spelled behind what was, each once
pub record Spells (h : History) (old new : Pending) : Type 0 where
  pub count : ℕ
  pub bytes : List ℕ
  pub spelled : new.spelled ≡ old.spelled + count
  pub are : spell_places old.spelled count h ≡ Some bytes
  pub left : new.left ≡ old.left ++ bytes

-- the first of what was left is written, and the rest is left
pub record Writes (old new : Pending) (contents contents' : Option (List ℕ)) : Type 0 where
  pub bytes : List ℕ
  pub parts : old.left ≡ bytes ++ new.left
  pub written : Appends contents contents' bytes
  pub spelled : new.spelled ≡ old.spelled
