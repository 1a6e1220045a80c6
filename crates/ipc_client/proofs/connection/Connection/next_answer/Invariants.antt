use Rattle.ipc_client.specs.Connections.{Reads, TakesNone, incoming}
use Rattle.ipc_client.proofs.connection.Connection.next_answer.Given as goal

-- what came stands behind what waited
abbrev pub invariant-loop : goal.invariant-loop
invariant-loop g l = Reads TakesNone (incoming g.R.Read.remaining l.initial.self) (incoming g.R.Read.remaining l.self)
