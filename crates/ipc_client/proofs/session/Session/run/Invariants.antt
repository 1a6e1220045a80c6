use Rattle.ipc_client.specs.Dialogues.{Talks, link}
use Rattle.ipc_client.specs.Sessions.{LinesEndAt}
use Rattle.ipc_client.proofs.session.Session.run.Given as goal

-- the lines so far ended
abbrev pub invariant-loop : goal.invariant-loop
invariant-loop g l = Talks (LinesEndAt l.last l.all_are_done) (link g.R.Read.remaining g.W.Write.contents l.initial.self l.initial.writer) (link g.R.Read.remaining g.W.Write.contents l.self l.writer)
