use Rattle.std.proofs.Common.{rules}
use Rattle.ipc_terms.proofs.op.AnswerOp.number.Goals as goal

pub returns : goal.returns
returns c = search rules
