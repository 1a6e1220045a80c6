use Rattle.std.proofs.Common.{◌++◌, ◌∙◌, None, length, ap, arith}
use Rattle.std.proofs.lemmas.List.{length_push}
use Rattle.ipc_containers.specs.Slots.{how_many_filled, most_slots}
use Rattle.ipc_containers.specs.Numbers.{older_slots}
use Rattle.ipc_containers.proofs.SlotsLemmas.{filled_more}
use Rattle.ipc_containers.proofs.NumbersLemmas.{pushed, all_length}
use Rattle.ipc_containers.proofs.numbered.Numbered.push_empty.Goals as goal

pub settle-requires-clause-fits : goal.settle-requires-clause-fits
settle-requires-clause-fits g c =
    let inside = c.self.inside in
    let room = c.requires in
    let view = ap (λ slots. length slots) c.self.view_is in
    let all = all_length inside.older inside.recent inside.base in
    let long = ap (λ slots. length slots) c.in_ok-push_empty.ensures.ok ∙ length_push inside.recent None in
    omega arith

pub invariant_of-self-2 : goal.invariant_of-self-2
invariant_of-self-2 g c =
    let inside = c.self.inside in
    let new = c.settle.new in
    let older = older_slots inside.older inside.base in
    let left = older_slots new.older new.base ++ new.recent in
    let room = c.requires in
    let view = ap (λ slots. length slots) c.self.view_is in
    let all = all_length inside.older inside.recent inside.base in
    let after = all_length new.older new.recent new.base in
    let pushed' = ap (λ slots. older ++ slots) c.in_ok-push_empty.ensures.ok ∙ pushed inside.older inside.recent inside.base None in
    let long = ap (λ slots. length slots) (c.settle.ensures.values ∙ pushed') ∙ length_push (older ++ inside.recent) None in
    let short = ap (λ slots. length slots) c.in_ok-push_empty.ensures.ok ∙ length_push inside.recent None in
    let first = ap (λ slots. most_slots slots) c.settle.ensures.values in
    let same = ap (λ slots. how_many_filled slots) (c.settle.ensures.values ∙ pushed') ∙ filled_more (older ++ inside.recent) in
    record {
      below = c.settle.ensures.below;
      fits = omega arith;
      few = λ now. c.settle.ensures.two_fewer (most_slots left) (omega arith) (λ was. let few = c.self.invariant.few was in omega arith) now;
    }
