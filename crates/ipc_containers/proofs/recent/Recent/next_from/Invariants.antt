use Rattle.ipc_containers.specs.Slots.{NoneBetween}
use Rattle.ipc_containers.proofs.recent.Recent.next_from.Given as goal

abbrev pub invariant-loop-next : goal.invariant-loop-next
invariant-loop-next g l = NoneBetween l.self l.slot l.next
