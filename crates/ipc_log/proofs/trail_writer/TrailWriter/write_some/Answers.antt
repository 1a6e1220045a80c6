use Rattle.std.proofs.Common.{ap, refl, sym, ◌∙◌}
use Rattle.ipc_log.specs.Writing.{Pending}
use Rattle.ipc_log.proofs.PendingLemmas.{some_written}
use Rattle.ipc_log.proofs.trail_writer.TrailWriter.write_some.Goals as goal

pub returns-clause-writes : goal.returns-clause-writes
returns-clause-writes g c =
    some_written c.args.self.now _ c.self.inside.text.items c.self.inside.written c.in_ok-count.count _ _ (ap (λ (p : Pending). p.left) (sym c.self.view_is)) refl (ap (λ (p : Pending). p.spelled) c.self.view_is) (rw c.deref.ensures.value at c.in_ok-count.ensures.bytes)
