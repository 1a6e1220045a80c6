use Rattle.std.proofs.Common.{◌∙◌, refl, sym, ap, Some, map, option_map}
use Rattle.ipc_containers.specs.Slots.{emptied}
use Rattle.ipc_containers.proofs.BoxesLemmas.{at_map, changed_map}
use Rattle.ipc_containers.proofs.boxes.NumberedBoxes.take.Goals as goal

pub returns-in_err-boxed-clause-rest : goal.returns-in_err-boxed-clause-rest
returns-in_err-boxed-clause-rest g c = rw (← c.self.view_is) (ap (map (option_map (λ b. b.value))) c.take.ensures.rest ∙ changed_map (λ b. b.value) emptied emptied c.self.inside.boxes c.args.number (λ x. refl))

pub returns-clause-value : goal.returns-clause-value
returns-clause-value g c = rw (← c.self.view_is) (ap Some c.into_inner.ensures ∙ ap (option_map (λ b. b.value)) (sym c.in_ok-boxed.was ∙ c.take.ensures.value) ∙ sym (at_map (λ b. b.value) c.self.inside.boxes c.args.number))

pub returns-clause-rest : goal.returns-clause-rest
returns-clause-rest g c = rw (← c.self.view_is) (ap (map (option_map (λ b. b.value))) c.take.ensures.rest ∙ changed_map (λ b. b.value) emptied emptied c.self.inside.boxes c.args.number (λ x. refl))
