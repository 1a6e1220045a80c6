-- Who may remove a name from a directory.
use Rattle.std.specs.Prelude.{Bool, ◌||◌, ◌==◌, not}
use Rattle.std.specs.Int.RustNames.{bit_and}
use Rattle.ipc_terms.specs.declared.ids.Mode.{Mode}
use Rattle.ipc_terms.specs.declared.ids.Uid.{Uid}
use Rattle.ipc_terms.specs.declared.facts.Facts.{Facts}
use Rattle.ipc_access.specs.declared.class.Cred.{Cred}

-- octal 1000
abbrev pub is_sticky : Mode → Bool
is_sticky mode = bit_and mode.0 512 == 512

-- a directory that is sticky lets a name be removed by user 0, by the owner of the name's object, and by its own owner alone
abbrev pub lets_remove : Cred → Facts → Uid → Bool
lets_remove who directory owner =
    not (is_sticky directory.mode) || (who.uid.0 == 0) || (who.uid.0 == owner.0) || (who.uid.0 == directory.owner.0)
