use Rattle.std.proofs.Common.{List, ap, ◌∙◌}
use Rattle.std.specs.Prelude.{option_and_then}
use Rattle.ipc_containers.specs.Slots.{at}
use Rattle.ipc_tables.specs.declared.rows.Session.{Session}
use Rattle.ipc_tables.specs.Sessions.{sessions_of}
use Rattle.ipc_tables.specs.TablesView.{live_session, parked_on_at}
use Rattle.ipc_tables.proofs.SessionRowsLemmas.{found_live, parked_live}
use Rattle.ipc_tables.proofs.sessions.Sessions.get.Goals as goal

pub returns-clause-live : goal.returns-clause-live
returns-clause-live c =
    let all = sessions_of c.self.inside.past.value in
    c.copied.ensures ∙ c.get.ensures ∙ ap (λ slots. at slots c.args.sid.0) c.self.invariant.0 ∙ found_live all c.args.sid.0 ∙ ap (λ (l : List Session). live_session l c.args.sid.0) c.self.view_is

pub returns-clause-parked : goal.returns-clause-parked
returns-clause-parked c =
    let all = sessions_of c.self.inside.past.value in
    ap (option_and_then (λ (row : Session). row.parked_on)) (c.copied.ensures ∙ c.get.ensures ∙ ap (λ slots. at slots c.args.sid.0) c.self.invariant.0 ∙ found_live all c.args.sid.0)
    ∙ parked_live all c.args.sid.0 c.self.invariant.1
    ∙ ap (λ (l : List Session). parked_on_at l c.args.sid.0) c.self.view_is
