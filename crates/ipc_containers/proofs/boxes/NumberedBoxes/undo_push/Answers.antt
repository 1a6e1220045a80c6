use Rattle.std.proofs.Common.{◌∙◌, ap, map, option_map}
use Rattle.ipc_containers.proofs.BoxesLemmas.{undone_map}
use Rattle.ipc_containers.proofs.boxes.NumberedBoxes.undo_push.Goals as goal

pub returns : goal.returns
returns g c = rw (← c.self.view_is) (ap (map (option_map (λ b. b.value))) c.undo_push.ensures ∙ undone_map (λ b. b.value) c.self.inside.boxes)
