use Rattle.ipc_client.specs.Dialogues.{Talks, link}
use Rattle.ipc_client.specs.Lists.{PagesGo}
use Rattle.ipc_client.proofs.session.Session.list_family.Given as goal

-- the pages so far told this many names
abbrev pub invariant-loop : goal.invariant-loop
invariant-loop g l = Talks (PagesGo l.family l.start) (link g.R.Read.remaining g.W.Write.contents l.initial.self l.initial.writer) (link g.R.Read.remaining g.W.Write.contents l.self l.writer)
