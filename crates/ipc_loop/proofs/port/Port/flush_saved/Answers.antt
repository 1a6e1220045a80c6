use Rattle.std.proofs.Common.{List, [], Option, subst}
use Rattle.ipc_loop.specs.Moves.{Moved}
use Rattle.ipc_loop.specs.Asking.{Flushes}
use Rattle.ipc_loop.specs.Serving.{Writes}
use Rattle.ipc_loop.proofs.port.Port.flush_saved.Goals as goal

pub returns-clause-writes : goal.returns-clause-writes
returns-clause-writes g c =
    subst (λ (w : Option (List Moved)). Writes c.args.number w (g.H.Host.moves c.flush.new.host) c.args.self.now [] c.flush.new.self) c.save.ensures.moved c.flush.ensures.writes

pub returns-clause-all : goal.returns-clause-all
returns-clause-all g c =
    subst (λ (w : Option (List Moved)). Flushes c.args.number w (g.H.Host.moves c.flush.new.host) c.args.self.now c.flush.new.self) c.save.ensures.moved c.flush.ensures.all
