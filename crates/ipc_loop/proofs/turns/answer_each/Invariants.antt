use Rattle.std.proofs.Common.{◌≡◌, ℕ}
use Rattle.ipc_loop.specs.Ports.{port_at, open_at, OnlyCloses}
use Rattle.ipc_loop.specs.Serving.{Serves, IsUpToDateByMark}
use Rattle.ipc_loop.specs.Asking.{Refuses}
use Rattle.ipc_loop.proofs.TurnLemmas.{how_many}
use Rattle.ipc_loop.proofs.turns.answer_each.Given as goal

abbrev pub invariant-loop-conn : goal.invariant-loop-conn
invariant-loop-conn g l = record {
  serves : Serves l.fn.hub (g.H.Host.moves l.fn.host) (port_at l.fn.ports.all) l.hub (g.H.Host.moves l.host) (port_at l.ports.all);
  marks : (i : ℕ) → IsUpToDateByMark l.hub (open_at l.ports.all) i;
  turns : l.ports.turns ≡ l.fn.ports.turns;
  silent : g.H.Host.told l.host ≡ g.H.Host.told l.fn.host;
  closes : OnlyCloses l.fn.ports.all l.ports.all;
  refuses : Refuses (g.H.Host.moves l.fn.host) (g.H.Host.moves l.host) (port_at l.fn.ports.all) (port_at l.ports.all);
}

abbrev pub decreases-loop-conn : goal.decreases-loop-conn
decreases-loop-conn g l = how_many l.hub.marked
