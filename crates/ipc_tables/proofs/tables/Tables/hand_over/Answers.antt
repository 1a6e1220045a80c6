use Rattle.std.proofs.Common.{ap}
use Rattle.ipc_descr.specs.Descriptions.{Descriptions}
use Rattle.ipc_tables.proofs.StandingLemmas.{wider_stands, wider_passed}
use Rattle.ipc_tables.proofs.tables.Tables.hand_over.Goals as goal

pub invariant_of-self-2 : goal.invariant_of-self-2
invariant_of-self-2 c =
    let inside = c.self.inside in
    rw (ap (λ (t : Descriptions). t.rows) c.in_ok-hand_over.ensures.ok) (wider_stands inside.queues inside.semaphores inside.descriptions.rows _ inside.objects (wider_passed c.args.desc.0 c.args.taker inside.descriptions.rows) c.self.invariant)
