use Rattle.std.proofs.Common.{◌++◌, ◌∙◌, Some, length, ap, arith}
use Rattle.std.proofs.lemmas.List.{length_push}
use Rattle.ipc_containers.specs.Slots.{how_many_filled}
use Rattle.ipc_containers.specs.Numbers.{older_slots}
use Rattle.ipc_containers.proofs.SlotsLemmas.{filled_push}
use Rattle.ipc_containers.proofs.NumbersLemmas.{pushed, all_length}
use Rattle.ipc_containers.proofs.numbered.Numbered.push.Goals as goal

pub invariant_of-self-2 : goal.invariant_of-self-2
invariant_of-self-2 g c =
    let inside = c.self.inside in
    let older = older_slots inside.older inside.base in
    let room = c.requires in
    let view = ap (λ slots. length slots) c.self.view_is in
    let all = all_length inside.older inside.recent inside.base in
    let long = ap (λ slots. length slots) c.in_ok-push.ensures.ok ∙ length_push inside.recent (Some c.args.value) in
    let more = ap (λ slots. how_many_filled slots) (ap (λ slots. older ++ slots) c.in_ok-push.ensures.ok ∙ pushed inside.older inside.recent inside.base (Some c.args.value)) ∙ filled_push (older ++ inside.recent) c.args.value in
    record { below = c.self.invariant.below; fits = omega arith; few = λ now. let few = c.self.invariant.few now in omega arith }
