use Rattle.std.proofs.Common.{◌≡◌, [], None}
use Rattle.ipc_loop.specs.Ports.{open_at, port_at, Continues}
use Rattle.ipc_loop.specs.Asking.{Asks}
use Rattle.ipc_loop.proofs.ListeningLemmas.{Tried}
use Rattle.ipc_loop.specs.Bounds.{IsWithin}
use Rattle.ipc_loop.specs.Serving.{ServesAndOpens, KeepsUpToDate}
use Rattle.ipc_loop.proofs.accepting.Accepting.accept_some.Given as goal

abbrev pub invariant-loop : goal.invariant-loop
invariant-loop g l = record {
  serves : ServesAndOpens l.fn.hub (g.H.Host.moves l.fn.host) l.fn.ports.all l.hub (g.H.Host.moves l.host) l.ports.all;
  marks : KeepsUpToDate l.fn.hub (open_at l.fn.ports.all) l.hub (open_at l.ports.all);
  bounds : l.self.bounds ≡ l.fn.self.bounds;
  within : IsWithin l.fn.self.bounds l.fn.ports.all → IsWithin l.fn.self.bounds l.ports.all;
  continues : Continues l.fn.ports.all l.ports.all;
  turns : l.ports.turns ≡ l.fn.ports.turns;
  next : l.ports.next ≡ l.fn.ports.next;
  silent : g.H.Host.told l.host ≡ g.H.Host.told l.fn.host;
  pausing : l.self.pausing ≡ None;
  may : l.self.may_accept ≡ l.fn.self.may_accept;
  tried : Tried l.counter (g.H.Host.moves l.fn.host) (g.H.Host.moves l.host) l.fn.ports.all l.ports.all;
  asks : Asks [] (g.H.Host.moves l.fn.host) (g.H.Host.moves l.host) (port_at l.fn.ports.all) (port_at l.ports.all);
}
