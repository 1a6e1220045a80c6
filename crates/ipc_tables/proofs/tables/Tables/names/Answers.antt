use Rattle.std.proofs.Common.{rules}
use Rattle.ipc_tables.proofs.tables.Tables.names.Goals as goal

pub returns-in-Mq : goal.returns-in-Mq
returns-in-Mq c = search rules
