use Rattle.std.proofs.Common.{rules}
use Rattle.ipc_words.specs.Calls.{meaning_of}
use Rattle.ipc_words.proofs.calls.ls.Goals as goal

pub returns-in_err-count : goal.returns-in_err-count
unfolding meaning_of
returns-in_err-count c = search rules
