use Rattle.std.proofs.Common.{length, drop, ap, arith}
use Rattle.ipc_containers.proofs.SlotsLemmas.{filled_within}
use Rattle.ipc_containers.proofs.recent.Recent.is_sparse.Goals as goal

pub overflow_sub-result : goal.overflow_sub-result
overflow_sub-result g c =
    let few = filled_within (drop c.self.inside.gone c.self.inside.slots.items) in
    let filled = c.self.invariant.1 in
    let view = ap (λ xs. length xs) c.self.view_is in
    let len = c.len-then-len-gt-FEW.ensures.count in
    omega arith
