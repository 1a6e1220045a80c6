use Rattle.std.proofs.Common.{◌∙◌, Some, refl, sym, ap}
use Rattle.ipc_terms.specs.Lists.{changed}
use Rattle.ipc_containers.specs.Slots.{emptied}
use Rattle.ipc_containers.proofs.SlotsLemmas.{first_emptied, first_restored}
use Rattle.ipc_containers.proofs.NumbersLemmas.{updated, others_stay}
use Rattle.ipc_containers.proofs.numbered.move_first.Goals as goal

pub returns-in_default-clause-older : goal.returns-in_default-clause-older
returns-in_default-clause-older g c = (c.requires.absent ∙ c.in_default.ensures.value, λ other apart. refl)

pub returns-in-Ok-clause-older : goal.returns-in-Ok-clause-older
returns-in-Ok-clause-older g c =
    let updates = c.in-Ok.ensures.updates.0 in
    (updated c.args.older.now c.insert.new.self c.args.number _ updates ∙ c.in-Some.ensures.value, others_stay c.args.older.now c.insert.new.self c.args.number _ updates)

pub put-requires : goal.put-requires
put-requires g c = rw c.take.ensures.rest (first_emptied c.args.recent.now c.requires.some)

pub returns-clause-unchanged : goal.returns-clause-unchanged
returns-clause-unchanged g c =
    let recent = c.args.recent.now in
    let back = ap (λ p. p.1) c.in-Err.ensures.value_returned in (
      c.in-Err.ensures.err,
      c.put.ensures
          ∙ ap (λ slots. changed (λ o. Some c.in-Err.refused.value.1) slots 0) c.take.ensures.rest
          ∙ ap (λ value. changed (λ o. Some value) (changed emptied recent 0) 0) back
          ∙ first_restored recent c.in-Some.value (sym c.in-Some.ensures.value),
    )
