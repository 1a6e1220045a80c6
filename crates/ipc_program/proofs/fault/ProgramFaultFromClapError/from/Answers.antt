use Rattle.std.proofs.Common.{rules, tests}
use Rattle.ipc_program.proofs.fault.ProgramFaultFromClapError.from.Goals as goal

pub returns-in_default : goal.returns-in_default
returns-in_default c = search (tests, rules)
