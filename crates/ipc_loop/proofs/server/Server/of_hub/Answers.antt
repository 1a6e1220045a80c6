use Rattle.ipc_loop.proofs.OpeningLemmas.{rests_new}
use Rattle.ipc_loop.proofs.server.Server.of_hub.Goals as goal

pub invariant_of-result : goal.invariant_of-result
invariant_of-result c = rests_new _ _ _ c.in_ok-ports.ensures.all c.in_ok-ports.ensures.turns
