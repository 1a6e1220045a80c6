use Rattle.std.proofs.Common.{rules}
use Rattle.ipc_script.proofs.fault.ScriptFaultFromUserFault.from.Goals as goal

pub returns-in-NoMemory : goal.returns-in-NoMemory
returns-in-NoMemory c = search rules
