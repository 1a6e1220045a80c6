use Rattle.std.proofs.Common.{rules}
use Rattle.ipc_terms.proofs.rule.Rule.errno.Goals as goal

pub returns-in-Present : goal.returns-in-Present
returns-in-Present c = search rules
