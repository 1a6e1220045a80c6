use Rattle.std.proofs.Common.{length, ap, length-append, arith}
use Rattle.std.specs.Prelude.{reverse}
use Rattle.std.proofs.lemmas.List.{length-reverse}
use Rattle.ipc_trail.specs.Log.{Log}
use Rattle.ipc_trail.specs.Gone.{gone_records}
use Rattle.ipc_trail.proofs.trail.Trail.len.Goals as goal

pub returns-clause-count : goal.returns-clause-count
returns-clause-count c =
    let seen = ap (λ (t : Log). length t.history) c.self.view_is in
    let both = length-append (reverse c.self.inside.records.items) (gone_records c.self.inside.gone.value) in
    let turned = length-reverse c.self.inside.records.items in
    let cut = c.self.invariant.0 in
    let same = c.self.invariant.2 in
    omega arith
