use Rattle.std.proofs.Common.{rules}
use Rattle.ipc_trail.proofs.trail.Trail.bytes_at.Goals as goal

pub returns : goal.returns
returns c = search rules
