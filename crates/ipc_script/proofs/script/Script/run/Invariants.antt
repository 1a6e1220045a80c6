use Rattle.ipc_lines.specs.Lines.{lines_read, unread}
use Rattle.ipc_script.proofs.RunLemmas.{SoFar}
use Rattle.ipc_script.proofs.script.Script.run.Given as goal

-- what is read so far is printed
abbrev pub invariant-loop : goal.invariant-loop
invariant-loop g l =
    SoFar g.W.Write.contents (lines_read l.initial.lines) (lines_read l.lines)
    (unread g.R.Read.remaining l.initial.lines) (unread g.R.Read.remaining l.lines) l.initial.self l.self
