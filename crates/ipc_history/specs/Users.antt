-- A number by which users are known again: a sum of what the verdicts read of them.
use Rattle.std.specs.Prelude.{ℕ, List, ◌++◌, length, flat_map}
use Rattle.std.specs.Int.{w32, w64, to_be_bytes}
use Rattle.ipc_terms.specs.declared.ids.Gid.{Gid}
use Rattle.ipc_access.specs.declared.users.User.{User}
use Rattle.ipc_log.specs.Checksum.{crc32c}

abbrev pub spelled_group : Gid → List ℕ
spelled_group group = to_be_bytes w32 group.0

-- the user's ID, its group's, its limit, how many groups it has besides, and these
unfoldable pub spelled_user : User → List ℕ
spelled_user user =
    to_be_bytes w32 user.cred.uid.0 ++ (to_be_bytes w32 user.cred.gid.0 ++ (to_be_bytes w64 user.cred.limit
    ++ (to_be_bytes w64 (length user.cred.groups) ++ flat_map spelled_group user.cred.groups)))

-- the sum of all of them, in the order of their file; no name and no key is in it
unfoldable pub users_sum : List User → ℕ
users_sum users = crc32c (flat_map spelled_user users)
