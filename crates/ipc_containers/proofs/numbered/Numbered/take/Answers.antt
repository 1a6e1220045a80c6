use Rattle.std.proofs.Common.{◌++◌, ◌∙◌, length, ap, arith}
use Rattle.ipc_terms.proofs.Lists.{count_changed}
use Rattle.ipc_containers.specs.Slots.{emptied, most_slots}
use Rattle.ipc_containers.specs.Numbers.{older_slots}
use Rattle.ipc_containers.proofs.SlotsLemmas.{filled_emptied_one}
use Rattle.ipc_containers.proofs.NumbersLemmas.{all_length}
use Rattle.ipc_containers.proofs.numbered.Numbered.take.Goals as goal

pub settle-requires-clause-fits : goal.settle-requires-clause-fits
settle-requires-clause-fits g c =
    let inside = c.self.inside in
    let out = c.take_out-value in
    let same = ap (λ slots. length slots) out.ensures.rest ∙ count_changed emptied (older_slots inside.older inside.base ++ inside.recent) c.args.number in
    let before = all_length inside.older inside.recent inside.base in
    let after = all_length out.new.older out.new.recent inside.base in
    let fits = c.self.invariant.fits in
    omega arith

pub invariant_of-self : goal.invariant_of-self
invariant_of-self g c =
    let inside = c.self.inside in
    let out = c.take_out-value in
    let new = c.settle.new in
    let all = older_slots inside.older inside.base ++ inside.recent in
    let left = older_slots new.older new.base ++ new.recent in
    let long = ap (λ slots. length slots) out.ensures.rest ∙ count_changed emptied all c.args.number in
    let same = ap (λ slots. length slots) c.settle.ensures.values ∙ long in
    let before = all_length inside.older inside.recent inside.base in
    let taken = all_length out.new.older out.new.recent inside.base in
    let after = all_length new.older new.recent new.base in
    let fits = c.self.invariant.fits in
    let most = ap (λ slots. most_slots slots) c.settle.ensures.values in
    let rest = ap (λ slots. most_slots slots) (c.settle.ensures.values ∙ out.ensures.rest) in
    let one = filled_emptied_one all c.args.number in
    record {
      below = c.settle.ensures.below;
      fits = omega arith;
      few = λ now. c.settle.ensures.two_fewer (most_slots left) (omega arith) (λ was. let few = c.self.invariant.few was in omega arith) now;
    }
