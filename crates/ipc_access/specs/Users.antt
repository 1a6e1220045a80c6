-- The list of users, and what is looked up in it.
use Rattle.std.specs.Prelude.{ℕ, ◌==◌, List, Option, find}
use Rattle.std.specs.Option.{option_map}
use Rattle.ipc_terms.specs.Names.{same_name}
use Rattle.ipc_terms.specs.declared.ids.Uid.{Uid}
use Rattle.ipc_access.specs.declared.class.Cred.{Cred}
use Rattle.ipc_access.specs.declared.users.User.{User}

-- the user whose key this is
abbrev pub user_of_key : List User → List ℕ → Option Uid
user_of_key users key = option_map (λ user. user.cred.uid) (find (λ user. same_name user.key key) users)

-- the credentials of the user of this ID
abbrev pub cred_of : List User → Uid → Option Cred
cred_of users uid = option_map (λ user. user.cred) (find (λ user. user.cred.uid.0 == uid.0) users)
