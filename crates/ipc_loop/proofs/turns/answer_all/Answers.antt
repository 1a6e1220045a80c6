use Rattle.std.proofs.Common.{List, Option, sym, subst}
use Rattle.ipc_loop.specs.Moves.{Moved}
use Rattle.ipc_loop.specs.Ports.{port_at}
use Rattle.ipc_loop.specs.Serving.{Serves}
use Rattle.ipc_loop.specs.Asking.{Refuses}
use Rattle.ipc_loop.proofs.turns.answer_all.Goals as goal

pub returns-clause-serves : goal.returns-clause-serves
returns-clause-serves g c =
    subst (λ (w : Option (List Moved)). Serves c.args.hub.now (g.H.Host.moves c.args.host.now) (port_at c.args.ports.now.all) c.answer_each.new.hub w (port_at c.answer_each.new.ports.all)) (sym c.save.ensures.moved) c.answer_each.ensures.serves

pub returns-clause-refuses : goal.returns-clause-refuses
returns-clause-refuses g c =
    subst (λ (w : Option (List Moved)). Refuses (g.H.Host.moves c.args.host.now) w (port_at c.args.ports.now.all) (port_at c.answer_each.new.ports.all)) (sym c.save.ensures.moved) c.answer_each.ensures.refuses
