use Rattle.std.proofs.Common.{ℕ, List, Bor, map, take}
use Rattle.ipc_client.specs.Dialogues.{Talks, link}
use Rattle.ipc_client.specs.Lists.{NamesGo}
use Rattle.ipc_client.proofs.session.Session.list_each.Given as goal

-- the names so far
abbrev pub invariant-loop-name : goal.invariant-loop-name
invariant-loop-name g l = Talks (NamesGo l.family (map (λ (w : Bor (List ℕ)). w.now) (take l.name-index l.names))) (link g.R.Read.remaining g.W.Write.contents l.initial.self l.initial.writer) (link g.R.Read.remaining g.W.Write.contents l.self l.writer)
