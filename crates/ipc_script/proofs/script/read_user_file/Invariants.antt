use Rattle.ipc_lines.specs.Lines.{lines_read, unread}
use Rattle.ipc_script.proofs.RunLemmas.{FileSoFar}
use Rattle.ipc_script.proofs.script.read_user_file.Given as goal

-- no line so far is left out
abbrev pub invariant-loop : goal.invariant-loop
invariant-loop g l =
    FileSoFar l.initial.file.items l.file.items (lines_read l.initial.lines) (lines_read l.lines)
    (unread g.R.Read.remaining l.initial.lines) (unread g.R.Read.remaining l.lines)
