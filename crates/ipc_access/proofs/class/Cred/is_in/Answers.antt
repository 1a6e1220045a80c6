use Rattle.std.proofs.Common.{rules}
use Rattle.ipc_access.proofs.class.Cred.is_in.Goals as goal

pub returns-then-self-group : goal.returns-then-self-group
returns-then-self-group c = search rules

pub returns-else-self-group : goal.returns-else-self-group
returns-else-self-group c = search rules
