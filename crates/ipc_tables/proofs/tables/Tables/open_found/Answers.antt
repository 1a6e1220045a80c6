use Rattle.std.proofs.Common.{rules, ap}
use Rattle.ipc_descr.specs.Descriptions.{Descriptions}
use Rattle.ipc_tables.proofs.StandingLemmas.{wider_stands, wider_opened}
use Rattle.ipc_tables.proofs.tables.Tables.open_found.Goals as goal

pub invariant_of-self-2 : goal.invariant_of-self-2
invariant_of-self-2 c =
    let inside = c.self.inside in
    rw (ap (λ (t : Descriptions). t.rows) c.in_ok-open.ensures.ok) (wider_stands inside.queues inside.semaphores inside.descriptions.rows _ inside.objects (wider_opened inside.descriptions.rows _) c.self.invariant)

pub returns-clause-ok : goal.returns-clause-ok
returns-clause-ok c = search rules
