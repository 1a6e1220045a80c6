use Rattle.ipc_access.specs.Places.{AreOf}
use Rattle.ipc_access.proofs.LineLemmas.{behind}
use Rattle.ipc_access.proofs.FileLemmas.{HaveRead}
use Rattle.ipc_access.proofs.users.Users.read.Given as goal

abbrev pub invariant-loop-line : goal.invariant-loop-line
invariant-loop-line l = HaveRead (behind l.line-items) l.line-index l.rows.items × AreOf l.seen l.rows.items
