use Rattle.std.proofs.Common.{rules}
use Rattle.ipc_log.proofs.record_writing.copied.Goals as goal

pub returns : goal.returns
returns c = search rules
