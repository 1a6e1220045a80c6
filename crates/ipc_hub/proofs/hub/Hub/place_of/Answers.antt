use Rattle.std.proofs.Common.{◌≡◌, true, length, slice_get, Option, Some, None, is_some, refl, ap, arith}
use Rattle.ipc_hub.specs.Hub.{Hub, Connection, fault_of_take}
use Rattle.ipc_hub.proofs.KeptLemmas.{as_many}
use Rattle.ipc_hub.proofs.hub.Hub.place_of.Goals as goal
use Rattle.std.proofs.lemmas.Option.{slice_get_past}
use Rattle.ipc_hub.proofs.KeptLemmas.{some_within}

pub returns-then-next_number-i-clause-fault : goal.returns-then-next_number-i-clause-fault
returns-then-next_number-i-clause-fault c =
    let count = as_many 0 c.self.inside.connections c.self.inside.gone.value in
    let same = ap (λ (h : Hub). length h.connections) c.self.view_is in
    let next = c.next_number.ensures in
    let past = c.if-next_number-i.true in
    ap fault_of_take (slice_get_past c.args.self.now.connections c.args.conn.0 (omega arith))

pub returns-clause-ok : goal.returns-clause-ok
returns-clause-ok c =
    let count = as_many 0 c.self.inside.connections c.self.inside.gone.value in
    let same = ap (λ (h : Hub). length h.connections) c.self.view_is in
    let next = c.next_number.ensures in
    let within = c.if-next_number-i.false in
    (refl, omega arith)

pub returns-clause-none : goal.returns-clause-none
returns-clause-none c =
    let within = (returns-clause-ok c).1 in
    there (slice_get c.args.self.now.connections c.args.conn.0) (some_within c.args.self.now.connections c.args.conn.0 within) where
      there : (w : Option Connection) → is_some w ≡ true → fault_of_take w ≡ None
      there None some = absurd cc
      there (Some x) some = refl
