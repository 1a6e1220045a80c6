use Rattle.std.proofs.Common.{◌≡◌, ◌++◌, take}
use Rattle.std.specs.Prelude.{flat_map}
use Rattle.ipc_history.specs.Users.{spelled_user}
use Rattle.ipc_history.proofs.user_sums.put_users.Given as goal

abbrev pub invariant-loop-user : goal.invariant-loop-user
invariant-loop-user l = l.bytes.items ≡ l.initial.bytes.items ++ flat_map spelled_user (take l.user-index l.users)
