-- Who may change the mode, the owner and the group of what there is.
use Rattle.std.specs.Prelude.{Bool, true, ◌&&◌, ◌||◌, ◌==◌, Option, Some, None}
use Rattle.ipc_terms.specs.declared.ids.Uid.{Uid}
use Rattle.ipc_terms.specs.declared.ids.Gid.{Gid}
use Rattle.ipc_access.specs.declared.class.Cred.{Cred}
use Rattle.ipc_access.specs.Class.{belongs_to}

-- user 0 and the owner may change the mode
abbrev pub lets_chmod : Cred → Uid → Bool
lets_chmod who owner = (who.uid.0 == 0) || (who.uid.0 == owner.0)

-- the new owner is the user itself; None keeps the owner
abbrev pub takes_itself : Cred → Option Uid → Bool
takes_itself who None = true
takes_itself who (Some uid) = who.uid.0 == uid.0

-- the new group is one of the user's; None keeps the group
abbrev pub takes_own_group : Cred → Option Gid → Bool
takes_own_group who None = true
takes_own_group who (Some gid) = belongs_to who gid

-- user 0 may give what there is to any user and any group; its owner may keep it alone, and give it to one of its own groups
abbrev pub lets_chown : Cred → Uid → Option Uid → Option Gid → Bool
lets_chown who owner uid gid =
    (who.uid.0 == 0) || ((who.uid.0 == owner.0) && takes_itself who uid && takes_own_group who gid)
