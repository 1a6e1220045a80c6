use Rattle.std.proofs.Common.{rules}
use Rattle.ipc_words.proofs.readings.count.Goals as goal

pub returns-in-Some : goal.returns-in-Some
returns-in-Some c = search rules
