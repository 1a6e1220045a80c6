use Rattle.std.proofs.Common.{rules}
use Rattle.ipc_terms.proofs.record.Event.caller.Goals as goal

pub returns-in-Do : goal.returns-in-Do
returns-in-Do c = search rules
