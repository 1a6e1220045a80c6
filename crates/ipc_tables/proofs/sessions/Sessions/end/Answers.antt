use Rattle.ipc_tables.specs.Sessions.{sessions_of}
use Rattle.ipc_tables.proofs.SessionRowsLemmas.{row_taken, ended_unparked}
use Rattle.ipc_tables.proofs.sessions.Sessions.end.Goals as goal

pub invariant_of-self : goal.invariant_of-self
invariant_of-self c =
    let all = sessions_of c.self.inside.past.value in
    rw (c.of-3.ensures, c.of-2.ensures, c.of.ensures, c.take.ensures.rest, c.self.invariant.0) (row_taken all c.args.sid.0, ended_unparked all c.args.sid.0 (rw (← c.self.view_is) at c.requires) c.self.invariant.1)
