use Rattle.std.proofs.Common.{◌≡◌, []}
use Rattle.ipc_loop.specs.Ports.{port_at, open_at, OnlyCloses, KeepsListed}
use Rattle.ipc_loop.specs.Asking.{Asks}
use Rattle.ipc_loop.specs.Hearing.{Hears}
use Rattle.ipc_loop.specs.Serving.{Serves, KeepsUpToDate}
use Rattle.ipc_loop.proofs.turns.note_all.Given as goal

abbrev pub invariant-loop : goal.invariant-loop
invariant-loop g l = record {
  serves : Serves l.fn.hub (g.H.Host.moves l.fn.host) (port_at l.fn.ports.all) l.hub (g.H.Host.moves l.host) (port_at l.ports.all);
  marks : KeepsUpToDate l.fn.hub (open_at l.fn.ports.all) l.hub (open_at l.ports.all);
  hears : Hears (g.H.Host.told l.fn.host) (g.H.Host.told l.host) l.fn.ports.all l.ports.all l.is_told;
  turns : l.ports.turns ≡ l.fn.ports.turns;
  closes : OnlyCloses l.fn.ports.all l.ports.all;
  next : KeepsListed l.fn.ports.next l.ports.next;
  asks : Asks [] (g.H.Host.moves l.fn.host) (g.H.Host.moves l.host) (port_at l.fn.ports.all) (port_at l.ports.all);
}
