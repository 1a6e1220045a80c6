use Rattle.std.proofs.Common.{refl, arith}
use Rattle.ipc_containers.proofs.Holding.{none_held}
use Rattle.ipc_containers.proofs.waiters.Waiters.new.Goals as goal

pub invariant_of-result : goal.invariant_of-result
invariant_of-result g c = rw c.new.ensures.empty record { rising = omega arith; held = none_held c.new-2.result _ c.new-2.ensures.none c.new-2.ensures.alone (λ session. refl) }
