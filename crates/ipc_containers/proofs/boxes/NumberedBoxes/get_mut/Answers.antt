use Rattle.std.proofs.Common.{◌∙◌, refl, sym, ap, Some, map, option_map}
use Rattle.std.specs.Box.{with_value}
use Rattle.std.specs.Option.{option_copied_mut}
use Rattle.ipc_containers.proofs.BoxesLemmas.{at_map, changed_map}
use Rattle.ipc_containers.proofs.boxes.NumberedBoxes.get_mut.Goals as goal

pub returns : goal.returns
returns g c = (
  (
    refl,
    (λ w. rw (← c.self.view_is) (ap (map (option_map (λ b. b.value))) (rw c.in_ok-value.was at (c.get_mut.follows.holds (with_value c.in_ok-value.value.now w))) ∙ changed_map (λ b. b.value) (λ x. Some (with_value c.in_ok-value.value.now w)) (λ x. Some w) c.self.inside.boxes c.args.number (λ x. refl))),
    refl,
  ),
  record { writes_back = tt; value = rw (← c.self.view_is) (ap Some c.as_mut.ensures.value ∙ ap (option_map (λ b. b.value)) (sym (ap option_copied_mut c.in_ok-value.was) ∙ c.get_mut.ensures.value) ∙ sym (at_map (λ b. b.value) c.self.inside.boxes c.args.number)) },
)
