use Rattle.std.proofs.Common.{◌≡◌, ◌+◌, ◌∷◌, ◌∙◌, drop, length, sym, ap, arith}
use Rattle.std.specs.Ordering.{nat_cmp}
use Rattle.std.specs.BTreeMap.{get}
use Rattle.ipc_terms.specs.Lists.{changed}
use Rattle.ipc_containers.specs.Slots.{emptied}
use Rattle.ipc_containers.specs.Numbers.{older_slots}
use Rattle.ipc_containers.proofs.SlotsLemmas.{first_emptied, first_and_rest, sparse_some, few_unless_sparse}
use Rattle.ipc_containers.proofs.NumbersLemmas.{settled}
use Rattle.ipc_containers.proofs.numbered.move_oldest.Goals as goal

pub returns-then-not-is_sparse-clause-one_fewer : goal.returns-then-not-is_sparse-clause-one_fewer
returns-then-not-is_sparse-clause-one_fewer g c most le before now =
    let few = few_unless_sparse (older_slots c.args.older.now c.args.base.now) c.args.recent.now (sym c.is_sparse.ensures ∙ c.if-not-is_sparse.true) in
    omega arith

pub drop_first-requires : goal.drop_first-requires
drop_first-requires g c = rw c.in-Ok.ensures.recent (first_emptied c.args.recent.now (sparse_some c.args.recent.now (sym c.is_sparse.ensures ∙ c.if-not-is_sparse.false)))

pub returns-clause-values : goal.returns-clause-values
returns-clause-values g c =
    let recent = c.args.recent.now in
    let base = c.args.base.now in
    let moved = c.in-Ok.ensures in
    let some = sparse_some recent (sym c.is_sparse.ensures ∙ c.if-not-is_sparse.false) in
    let rest = c.drop_first.ensures ∙ ap (λ slots. drop 1 slots) moved.recent in
    settled c.args.older.now c.move_first.new.older recent c.drop_first.new.self base
    (first_and_rest recent some ∙ ap (λ first. first ∷ drop 1 (changed emptied recent 0)) (sym moved.older.0) ∙ ap (λ slots. get nat_cmp c.move_first.new.older base ∷ slots) (sym rest))
    (λ i l. moved.older.1 i (λ (e : i ≡ base). omega arith))

pub returns-clause-one_fewer : goal.returns-clause-one_fewer
returns-clause-one_fewer g c most le before now =
    let recent = c.args.recent.now in
    let some = sparse_some recent (sym c.is_sparse.ensures ∙ c.if-not-is_sparse.false) in
    let one : length c.drop_first.new.self + 1 ≡ length recent = (let rest = ap (λ slots. length slots) (c.drop_first.ensures ∙ ap (λ slots. drop 1 slots) c.in-Ok.ensures.recent) in let all = ap (λ slots. length slots) (first_and_rest recent some) in omega arith) in
    let all = before now in
    omega arith
