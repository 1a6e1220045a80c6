use Rattle.ipc_tables.specs.Sessions.{sessions_of}
use Rattle.ipc_tables.proofs.SessionRowsLemmas.{started, started_unparked}
use Rattle.ipc_tables.proofs.sessions.Sessions.start.Goals as goal

pub invariant_of-self-2 : goal.invariant_of-self-2
invariant_of-self-2 c =
    let all = sessions_of c.self.inside.past.value in
    rw (c.of-3.ensures, c.of-2.ensures, c.of.ensures, c.in_ok-push.ensures.ok, c.self.invariant.0) (started all c.args.user, started_unparked all c.args.user c.self.invariant.1)
