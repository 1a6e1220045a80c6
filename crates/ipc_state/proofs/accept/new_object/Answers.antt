use Rattle.std.proofs.Common.{rules, tests}
use Rattle.ipc_state.proofs.accept.new_object.Goals as goal

pub returns : goal.returns
returns c = search (tests, rules)
