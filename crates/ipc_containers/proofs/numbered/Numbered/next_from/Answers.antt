use Rattle.std.proofs.Common.{arith}
use Rattle.ipc_containers.proofs.NumbersLemmas.{next_older, none_older, next_recent, next_none, value_within}
use Rattle.ipc_containers.proofs.numbered.Numbered.next_from.Goals as goal

pub returns-in-Some : goal.returns-in-Some
returns-in-Some g c =
    let inside = c.self.inside in
    rw (← c.self.view_is) (next_older inside.older inside.recent inside.base c.args.number c.in-Some.older.now c.in-Some.field-0-1.now _ _ c.self.invariant.below (c.range.ensures.in_range tt) c.in-Some.ensures.steps)

pub returns-in_err-slot : goal.returns-in_err-slot
returns-in_err-slot g c =
    let inside = c.self.inside in
    let older = none_older inside.older c.args.number _ (c.range.ensures.in_range tt) c.in_default.ensures.steps.0 in
    rw (← c.self.view_is) (rw c.from_residual.ensures (next_none inside.older inside.recent inside.base c.args.number c.saturating_sub.result older c.saturating_sub.ensures c.in_err-slot.ensures))

pub overflow_add-result : goal.overflow_add-result
overflow_add-result g c =
    let within = value_within c.self.inside.recent c.in_ok-slot.slot c.in_ok-slot.ensures.1 in
    let fits = c.self.invariant.fits in
    omega arith

pub returns : goal.returns
returns g c =
    let inside = c.self.inside in
    let older = none_older inside.older c.args.number _ (c.range.ensures.in_range tt) c.in_default.ensures.steps.0 in
    rw (← c.self.view_is) (next_recent inside.older inside.recent inside.base c.args.number c.saturating_sub.result c.in_ok-slot.slot older c.saturating_sub.ensures c.in_ok-slot.ensures)
