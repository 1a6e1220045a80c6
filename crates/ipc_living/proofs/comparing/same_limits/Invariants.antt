use Rattle.std.proofs.Common.{◌≡◌, ◌<◌, ℕ, slice_get, Some}
use Rattle.ipc_access.specs.declared.users.User.{User}
use Rattle.ipc_descr.specs.Charges.{limit_of}
use Rattle.ipc_living.specs.Rows.{limit_carried}
use Rattle.ipc_living.proofs.comparing.same_limits.Given as goal

abbrev pub invariant-loop-user : goal.invariant-loop-user
invariant-loop-user l = (i : ℕ) (user : User) → i < l.user-index → slice_get l.others i ≡ Some user → limit_carried l.users l.a.charges l.others user.cred.uid ≡ limit_of l.b.charges user.cred.uid.0
