use Rattle.std.proofs.Common.{rules}
use Rattle.ipc_access.proofs.ownership.takes_for_itself.Goals as goal

pub returns-in-Some : goal.returns-in-Some
returns-in-Some c = search rules
