use Rattle.std.proofs.Common.{◌≡◌, ◌++◌, drop}
use Rattle.std.specs.String.{string_bytes}
use Rattle.ipc_words.specs.Answers.{spaced_names}
use Rattle.ipc_words.proofs.answers.put_spaced_names.Given as goal

-- the line so far and the names that are left are the whole line
abbrev pub invariant-loop-name : goal.invariant-loop-name
invariant-loop-name l = string_bytes l.line ++ spaced_names (drop l.name-index l.names) ≡ string_bytes l.initial.line ++ spaced_names l.names
