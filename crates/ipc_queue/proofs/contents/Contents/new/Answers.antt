use Rattle.std.proofs.Common.{[], refl}
use Rattle.ipc_containers.proofs.Holding.{none_held}
use Rattle.ipc_queue.specs.Contents.{of_priority}
use Rattle.ipc_queue.proofs.contents.Contents.new.Goals as goal

pub invariant_of-result : goal.invariant_of-result
invariant_of-result c = rw c.of.ensures (none_held c.new.result (λ priority. of_priority priority []) c.new.ensures.none c.new.ensures.alone (λ priority. refl), refl)
