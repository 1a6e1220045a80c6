use Rattle.ipc_history.specs.Incoming.{IsBounded, Reads, TakesNone, incoming, waiting}
use Rattle.ipc_history.proofs.trail_reader.TrailReader.next_head.Given as goal

-- nothing is taken yet of what came
abbrev pub invariant-loop : goal.invariant-loop
invariant-loop g l = record {
  reads : Reads TakesNone (incoming g.R.Read.remaining l.initial.self) (incoming g.R.Read.remaining l.self);
  bounded : IsBounded (waiting l.initial.self) → IsBounded (waiting l.self);
}
