use Rattle.std.proofs.Common.{◌≡◌, length}
use Rattle.ipc_descr.specs.Descriptions.{without_session}
use Rattle.ipc_tables.specs.Steps.{after_withdrawal}
use Rattle.ipc_tables.proofs.HangingUp.{closed_to}
use Rattle.ipc_tables.proofs.tables.Tables.end_session.Given as goal

-- the tables are those of the descriptions that are left, and of the other sessions' all are
abbrev pub invariant-loop-desc : goal.invariant-loop-desc
invariant-loop-desc l = record {
  tables : l.self ≡ closed_to (after_withdrawal l.fn.self l.sid) l.sid.0 l.self.descriptions.rows;
  others : without_session l.self.descriptions.rows l.sid.0 ≡ without_session (after_withdrawal l.fn.self l.sid).descriptions.rows l.sid.0;
}

abbrev pub decreases-loop-desc : goal.decreases-loop-desc
decreases-loop-desc l = length l.self.descriptions.rows
