use Rattle.std.proofs.Common.{◌≡◌, ℕ, List, length}
use Rattle.ipc_loop.specs.Ports.{port_at, open_at, OnlyCloses}
use Rattle.ipc_loop.specs.Serving.{Serves, KeepsUpToDate}
use Rattle.ipc_loop.specs.Asking.{Asks}
use Rattle.ipc_loop.proofs.AskingLemmas.{Covers}
use Rattle.ipc_loop.proofs.turns.give_turns.Given as goal

abbrev pub invariant-loop-hub : goal.invariant-loop-hub
invariant-loop-hub g l = record {
  serves : Serves l.fn.hub (g.H.Host.moves l.fn.host) (port_at l.fn.ports.all) l.hub (g.H.Host.moves l.host) (port_at l.ports.all);
  marks : KeepsUpToDate l.fn.hub (open_at l.fn.ports.all) l.hub (open_at l.ports.all);
  silent : g.H.Host.told l.host ≡ g.H.Host.told l.fn.host;
  closes : OnlyCloses l.fn.ports.all l.ports.all;
  asks : (had : List ℕ) × (Covers l.fn.ports.turns had l.ports.turns × Asks had (g.H.Host.moves l.fn.host) (g.H.Host.moves l.host) (port_at l.fn.ports.all) (port_at l.ports.all));
}

abbrev pub decreases-loop-hub : goal.decreases-loop-hub
decreases-loop-hub g l = length l.ports.turns
