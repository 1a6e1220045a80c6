use Rattle.std.proofs.Common.{rules}
use Rattle.ipc_trail.proofs.trail.Trail.prio_at.Goals as goal

pub returns : goal.returns
returns c = search rules
