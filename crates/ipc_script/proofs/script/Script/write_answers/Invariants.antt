use Rattle.std.proofs.Common.{take}
use Rattle.ipc_script.specs.Running.{AreWritten, Prints}
use Rattle.ipc_script.specs.Told.{to_session}
use Rattle.ipc_script.proofs.script.Script.write_answers.Given as goal

-- so many answers are written
abbrev pub invariant-loop-answer : goal.invariant-loop-answer
invariant-loop-answer g l = Prints g.W.Write.contents (AreWritten l.label (to_session l.sid (take l.answer-index l.told))) l.initial.self l.self
