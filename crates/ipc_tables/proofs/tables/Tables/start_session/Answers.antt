use Rattle.std.proofs.Common.{rules}
use Rattle.ipc_tables.proofs.tables.Tables.start_session.Goals as goal

pub returns-clause-ok : goal.returns-clause-ok
returns-clause-ok c = search rules
