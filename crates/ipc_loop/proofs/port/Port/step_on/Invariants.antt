use Rattle.std.proofs.Common.{◌≡◌, Option, List}
use Rattle.ipc_loop.specs.Moves.{Moved}
use Rattle.ipc_loop.specs.Serving.{ServesPort, OthersStayUndone}
use Rattle.ipc_loop.specs.Portions.{StepsAndCollects, KeepsBound}
use Rattle.ipc_loop.proofs.port.Port.step_on.Given as goal

abbrev pub invariant-loop : goal.invariant-loop
invariant-loop l = record {
  serves : (moves : Option (List Moved)) → ServesPort l.fn.number l.fn.hub moves l.fn.self l.hub moves l.self;
  collects : StepsAndCollects l.fn.number l.fn.hub l.hub l.self;
  undone : OthersStayUndone l.fn.number l.fn.hub l.hub;
  bound : KeepsBound l.fn.self.left l.self.left;
  may_write : l.self.may_write ≡ l.fn.self.may_write;
}
