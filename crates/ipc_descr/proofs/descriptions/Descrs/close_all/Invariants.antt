use Rattle.std.proofs.Common.{◌≡◌, length}
use Rattle.ipc_descr.specs.Descriptions.{without_session}
use Rattle.ipc_descr.proofs.descriptions.Descrs.close_all.Given as goal

-- what closes so far have left of the other sessions' rows is all of it
abbrev pub invariant-loop-desc : goal.invariant-loop-desc
invariant-loop-desc l = record {
  others : without_session l.self.rows l.sid.0 ≡ without_session l.fn.self.rows l.sid.0;
  opened : l.self.opened ≡ l.fn.self.opened;
}

abbrev pub decreases-loop-desc : goal.decreases-loop-desc
decreases-loop-desc l = length l.self.rows
