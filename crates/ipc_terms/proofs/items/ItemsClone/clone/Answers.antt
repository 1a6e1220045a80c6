use Rattle.std.proofs.Common.{rules, tests}
use Rattle.ipc_terms.proofs.items.ItemsClone.clone.Goals as goal

pub returns-in_err-clone : goal.returns-in_err-clone
returns-in_err-clone c = search (tests, rules)
