use Rattle.std.proofs.Common.{arith}
use Rattle.std.proofs.lemmas.Grind.{common_steps}
use Rattle.ipc_trail.proofs.trail.Trail.reserve_one.Goals as goal

pub returns-clause-room : goal.returns-clause-room
returns-clause-room c = grind (arith, common_steps)
