-- File access permissions: exactly one class decides.
use Rattle.std.specs.Prelude.{Bool, ℕ, ◌/◌, ◌%◌, ◌==◌, ◌||◌, bit_and, if◌then◌else◌}
use Rattle.std.specs.List.{list_any}
use Rattle.ipc_terms.specs.declared.ids.Uid.{Uid}
use Rattle.ipc_terms.specs.declared.ids.Gid.{Gid}
use Rattle.ipc_terms.specs.declared.ids.Mode.{Mode}
use Rattle.ipc_access.specs.declared.class.Cred.{Cred}
use Rattle.ipc_access.specs.declared.class.Class.{Class}
use Rattle.ipc_access.specs.declared.class.Class.TheVariants.{Owner, Group, Other}

-- the group is the user's group, or one of its supplementary groups
abbrev pub belongs_to : Cred → Gid → Bool
belongs_to cred group = (cred.gid.0 == group.0) || list_any (λ g. g.0 == group.0) cred.groups

-- owner if the user is the owner; otherwise group if the user belongs to the group; otherwise other
abbrev pub class : Cred → Uid → Gid → Class
class cred owner group =
    if cred.uid.0 == owner.0 then Owner else (if belongs_to cred group then Group else Other)

-- the three bits of a mode that are the class's
abbrev pub class_bits : Class → Mode → ℕ
class_bits Owner mode = mode.0 / 64 % 8
class_bits Group mode = mode.0 / 8 % 8
class_bits Other mode = mode.0 % 8

-- user 0 is granted all; any other user, what its class has every wanted bit of
abbrev pub granted : Cred → Uid → Gid → Mode → ℕ → Bool
granted cred owner group mode wanted =
    (cred.uid.0 == 0) || (bit_and (class_bits (class cred owner group) mode) wanted == wanted)
