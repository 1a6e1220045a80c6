-- The names, keys and IDs of users, each in the order of the users.
use Rattle.std.specs.Prelude.{◌≡◌, ℕ, List, map, Option, Some, None, if◌then◌else◌}
use Rattle.std.specs.Bool.{nat_eq}
use Rattle.std.specs.List.{list_any}
use Rattle.std.specs.Str.{bytes_eq}
use Rattle.ipc_access.specs.declared.users.User.{User}
use Rattle.ipc_access.specs.declared.fault.UserFault.{UserFault}
use Rattle.ipc_access.specs.declared.fault.UserFault.TheVariants.{DuplicateName, DuplicateKey, DuplicateUid}
use Rattle.ipc_access.specs.declared.seen.Seen.{Seen}

abbrev pub names_of : List User → List (List ℕ)
names_of users = map (λ user. user.name) users

abbrev pub keys_of : List User → List (List ℕ)
keys_of users = map (λ user. user.key) users

abbrev pub ids_of : List User → List ℕ
ids_of users = map (λ user. user.cred.uid.0) users

-- these are the users' keys and IDs
pub record Follow (keys : List (List ℕ)) (ids : List ℕ) (users : List User) : Type 0 where
  pub keys_are : keys ≡ keys_of users
  pub ids_are : ids ≡ ids_of users

-- these are the users' names, keys and IDs
pub record AreOf (seen : Seen) (users : List User) : Type 0 where
  pub names_are : seen.names ≡ names_of users
  pub keys_are : seen.keys ≡ keys_of users
  pub ids_are : seen.ids ≡ ids_of users

-- what is wrong with a user of the line of this number, where these names, keys and IDs are taken
abbrev pub fault_among : Seen → ℕ → User → Option UserFault
fault_among seen number user =
    if list_any (bytes_eq user.name) seen.names then Some (DuplicateName number)
    else (if list_any (bytes_eq user.key) seen.keys then Some (DuplicateKey number)
    else (if list_any (nat_eq user.cred.uid.0) seen.ids then Some (DuplicateUid number)
    else None))
