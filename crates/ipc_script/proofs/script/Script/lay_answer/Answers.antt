use Rattle.std.proofs.Common.{rules}
use Rattle.ipc_script.proofs.script.Script.lay_answer.Goals as goal

pub returns-clause-line : goal.returns-clause-line
returns-clause-line g c = search rules
