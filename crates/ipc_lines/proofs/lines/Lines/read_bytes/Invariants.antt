use Rattle.std.proofs.Common.{◌≡◌}
use Rattle.ipc_lines.specs.Lines.{unread_input}
use Rattle.ipc_lines.proofs.LineLemmas.{ReadsRun}
use Rattle.ipc_lines.proofs.lines.Lines.read_bytes.Given as goal

-- a piece more is no line more, and the pieces so far are what was read
abbrev pub invariant-loop : goal.invariant-loop
invariant-loop g l = record {
  count : l.self.count ≡ l.initial.self.count;
  run : ReadsRun l.self.line.items (unread_input g.R.Read.remaining l.initial.self) (unread_input g.R.Read.remaining l.self);
}
