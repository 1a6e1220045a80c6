use Rattle.std.proofs.Common.{ap, ◌∙◌}
use Rattle.ipc_terms.specs.Lists.{first}
use Rattle.ipc_containers.proofs.Arrivals.{first_value}
use Rattle.ipc_containers.proofs.waiters.Waiters.first.Goals as goal

pub returns : goal.returns
returns g c = first_value c.self.inside.calls.entries _ _ c.in_ok-call.ensures.first ∙ ap (λ calls. first calls) c.self.view_is
