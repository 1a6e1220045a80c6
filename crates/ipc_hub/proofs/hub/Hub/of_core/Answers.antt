use Rattle.std.proofs.Common.{ap}
use Rattle.ipc_hub.specs.MarkedCore.{MarkedView}
use Rattle.ipc_hub.proofs.HubMarks.{no_connections}
use Rattle.ipc_hub.proofs.KeptLemmas.{none_away}
use Rattle.ipc_hub.proofs.hub.Hub.of_core.Goals as goal

pub invariant_of-result : goal.invariant_of-result
invariant_of-result c = rw c.new.ensures (no_connections c.of_core.result (ap (λ (m : MarkedView). m.marked) c.of_core.ensures) (ap (λ (m : MarkedView). m.flagged) c.of_core.ensures), none_away c.of_core.result.core _)
