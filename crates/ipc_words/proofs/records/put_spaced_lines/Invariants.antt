use Rattle.std.proofs.Common.{◌≡◌, ◌++◌, drop}
use Rattle.std.specs.String.{string_bytes}
use Rattle.ipc_words.specs.Answers.{spaced_lines}
use Rattle.ipc_words.proofs.records.put_spaced_lines.Given as goal

-- the text so far and the lines that are left are the whole text
abbrev pub invariant-loop-line : goal.invariant-loop-line
invariant-loop-line l = string_bytes l.text ++ spaced_lines (drop l.line-index l.lines) ≡ string_bytes l.initial.text ++ spaced_lines l.lines
