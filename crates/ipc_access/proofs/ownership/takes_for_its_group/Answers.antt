use Rattle.std.proofs.Common.{rules}
use Rattle.ipc_access.proofs.ownership.takes_for_its_group.Goals as goal

pub returns-in-Some : goal.returns-in-Some
returns-in-Some c = search rules
