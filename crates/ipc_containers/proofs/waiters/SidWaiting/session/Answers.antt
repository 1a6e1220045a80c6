use Rattle.std.proofs.Common.{rules}
use Rattle.ipc_containers.proofs.waiters.SidWaiting.session.Goals as goal

pub returns : goal.returns
returns c = search rules
