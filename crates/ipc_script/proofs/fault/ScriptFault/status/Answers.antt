use Rattle.std.proofs.Common.{rules}
use Rattle.ipc_script.proofs.fault.ScriptFault.status.Goals as goal

pub returns-in-Memory : goal.returns-in-Memory
returns-in-Memory c = search rules
