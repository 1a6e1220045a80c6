use Rattle.std.proofs.Common.{ap}
use Rattle.ipc_hub.specs.Gone.{all_of}
use Rattle.ipc_hub.specs.MarkedCore.{MarkedView}
use Rattle.ipc_hub.proofs.KeptLemmas.{forgot_away}
use Rattle.ipc_hub.proofs.HubMarks.{forgot_stands}
use Rattle.ipc_hub.proofs.hub.Hub.forget_one.Goals as goal

pub invariant_of-self : goal.invariant_of-self
invariant_of-self c = (
  forgot_stands c.self.inside.core c.forget_one.new.self _ (all_of c.self.inside.connections c.self.inside.gone.value) c.self.invariant.0 c.forget_one.ensures.now,
  forgot_away c.self.inside.core.core c.forget_one.new.self.core _ c.self.inside.connections c.self.inside.gone.value (ap (λ (m : MarkedView). m.core) c.forget_one.ensures.now) c.self.invariant.1,
)
