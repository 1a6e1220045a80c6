use Rattle.ipc_containers.proofs.BoxesLemmas.{next_map}
use Rattle.ipc_containers.proofs.boxes.NumberedBoxes.next_from.Goals as goal

pub returns : goal.returns
returns g c = rw (← c.self.view_is) (next_map (λ b. b.value) c.self.inside.boxes c.args.number _ c.next_from.ensures)
