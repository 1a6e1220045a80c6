use Rattle.std.proofs.Common.{rules}
use Rattle.ipc_words.proofs.parsing.arg_of.Goals as goal

pub returns-in-Valued-clause-rule : goal.returns-in-Valued-clause-rule
returns-in-Valued-clause-rule c = search rules
