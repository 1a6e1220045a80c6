use Rattle.std.proofs.Common.{arith}
use Rattle.ipc_containers.proofs.Holding.{filled_of_none, alone_of_filled}
use Rattle.ipc_containers.proofs.buckets.Buckets.new.Goals as goal

pub returns-clause-alone : goal.returns-clause-alone
returns-clause-alone g c = alone_of_filled _ (filled_of_none _ (rw c.new.ensures.empty (omega arith)))
