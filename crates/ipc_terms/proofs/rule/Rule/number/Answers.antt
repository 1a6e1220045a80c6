use Rattle.std.proofs.Common.{rules}
use Rattle.ipc_terms.proofs.rule.Rule.number.Goals as goal

pub returns : goal.returns
returns c = search rules
