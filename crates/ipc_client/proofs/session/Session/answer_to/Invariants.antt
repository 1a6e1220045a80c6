use Rattle.ipc_client.specs.Connections.{Reads}
use Rattle.ipc_client.specs.Dialogues.{AreNotices, incoming_of}
use Rattle.ipc_client.proofs.session.Session.answer_to.Given as goal

-- nothing but notices came so far
abbrev pub invariant-loop : goal.invariant-loop
invariant-loop g l = Reads AreNotices (incoming_of g.R.Read.remaining l.initial.self) (incoming_of g.R.Read.remaining l.self)
