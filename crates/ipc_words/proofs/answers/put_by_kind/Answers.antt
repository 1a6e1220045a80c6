use Rattle.std.proofs.Common.{rules}
use Rattle.ipc_words.specs.Answers.{answer_line}
use Rattle.ipc_words.proofs.answers.put_by_kind.Goals as goal

pub returns-in-Started : goal.returns-in-Started
unfolding answer_line
returns-in-Started c = search rules
