use Rattle.std.proofs.Common.{ap}
use Rattle.ipc_descr.specs.Descriptions.{Descriptions}
use Rattle.ipc_tables.proofs.StandingLemmas.{wider_stands, wider_set}
use Rattle.ipc_tables.proofs.tables.Tables.set_nonblock.Goals as goal

pub invariant_of-self : goal.invariant_of-self
invariant_of-self c =
    let inside = c.self.inside in
    rw (ap (λ (t : Descriptions). t.rows) c.set_nonblock.ensures) (wider_stands inside.queues inside.semaphores inside.descriptions.rows _ inside.objects (wider_set c.args.desc.0 c.args.nonblock inside.descriptions.rows) c.self.invariant)
