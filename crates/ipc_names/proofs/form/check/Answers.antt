use Rattle.std.proofs.Common.{rules}
use Rattle.ipc_names.proofs.form.check.Goals as goal

pub returns-then-is_long : goal.returns-then-is_long
returns-then-is_long c = search rules
