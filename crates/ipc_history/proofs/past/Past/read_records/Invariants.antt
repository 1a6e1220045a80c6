use Rattle.ipc_history.specs.Incoming.{IsBounded, Reads, incoming, waiting}
use Rattle.ipc_history.proofs.PastLemmas.{Stepped}
use Rattle.ipc_history.proofs.past.Past.read_records.Given as goal

-- the records that came so far were stepped
abbrev pub invariant-loop : goal.invariant-loop
invariant-loop g l = record {
  reads : Reads (Stepped l.initial.self l.self) (incoming g.R.Read.remaining l.initial.reader) (incoming g.R.Read.remaining l.reader);
  bounded : IsBounded (waiting l.initial.reader) → IsBounded (waiting l.reader);
}
