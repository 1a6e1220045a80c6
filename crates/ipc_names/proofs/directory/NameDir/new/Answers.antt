use Rattle.std.proofs.Common.{rules}
use Rattle.ipc_names.proofs.directory.NameDir.new.Goals as goal

pub returns : goal.returns
returns c = search rules
