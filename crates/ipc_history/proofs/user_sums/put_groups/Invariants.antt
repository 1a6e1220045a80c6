use Rattle.std.proofs.Common.{◌≡◌, ◌++◌, take}
use Rattle.std.specs.Prelude.{flat_map}
use Rattle.ipc_history.specs.Users.{spelled_group}
use Rattle.ipc_history.proofs.user_sums.put_groups.Given as goal

abbrev pub invariant-loop-group : goal.invariant-loop-group
invariant-loop-group l = l.bytes.items ≡ l.initial.bytes.items ++ flat_map spelled_group (take l.group-index l.groups)
