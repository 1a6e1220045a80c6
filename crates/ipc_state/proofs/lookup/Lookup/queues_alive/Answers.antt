use Rattle.std.proofs.Common.{◌∙◌}
use Rattle.ipc_state.proofs.ChargeTables.{queues_counted}
use Rattle.ipc_state.proofs.lookup.Lookup.queues_alive.Goals as goal

pub returns : goal.returns
returns c = c.queue_count.ensures ∙ queues_counted _ _ _ _ c.tables.ensures.legal c.tables.ensures.agrees.objects
