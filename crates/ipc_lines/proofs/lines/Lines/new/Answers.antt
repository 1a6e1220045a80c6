use Rattle.std.proofs.Common.{rules}
use Rattle.ipc_lines.proofs.lines.Lines.new.Goals as goal

pub returns-in-Ok : goal.returns-in-Ok
returns-in-Ok g c = search rules
