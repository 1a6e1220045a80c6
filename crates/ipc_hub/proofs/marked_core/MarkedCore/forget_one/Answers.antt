use Rattle.std.proofs.Common.{◌≡◌, length, ap, ◌∙◌, arith}
use Rattle.ipc_policy.specs.Decides.History.{History}
use Rattle.ipc_core.specs.CoreView.{CoreView}
use Rattle.ipc_hub.specs.MarkedCore.{MarkedView}
use Rattle.ipc_hub.proofs.marked_core.MarkedCore.forget_one.Goals as goal

pub returns-clause-later : goal.returns-clause-later
returns-clause-later c =
    let within = c.first-first.ensures.within in
    let first : c.first-first.result ≡ c.self.inside.core.first = c.first-first.ensures.first ∙ c.trail.ensures.first in
    let count : length c.trail.result.now.history ≡ length c.self.inside.core.history = ap (λ (h : History). length h) c.trail.ensures.history in
    let now = ap (λ (a : CoreView). a.first) c.forget_one.ensures in
    let was : c.self.inside.core.first ≡ c.args.self.now.core.first = ap (λ (m : MarkedView). m.core.first) c.self.view_is in
    omega arith
