use Rattle.std.proofs.Common.{refl, sym, ap, ◌∙◌}
use Rattle.std.specs.Option.{option_copied_mut}
use Rattle.ipc_containers.specs.Slots.{at}
use Rattle.ipc_tables.specs.Sessions.{sessions_of}
use Rattle.ipc_tables.specs.Steps.{with_parked}
use Rattle.ipc_tables.proofs.SessionRowsLemmas.{row_set, row_absent, parked_unparked}
use Rattle.ipc_tables.proofs.sessions.Sessions.set_parked.Goals as goal
use Rattle.ipc_tables.proofs.sessions.Sessions.set_parked.Goals.{in-Some, in_default}

pub invariant_of-self : goal.invariant_of-self
invariant_of-self c =
    let all = sessions_of c.self.inside.past.value in
    let found = sym (c.get_mut.ensures.value ∙ ap (λ slots. at slots c.args.sid.0) c.self.invariant.0) in
    elim c.match-get_mut.branch [
      | in-Some w ↦
          let row = w.in-Some.row.now in
          let wrote = rw w.in-Some.is at (c.get_mut.follows.holds (with_parked c.args.object row)) in
          rw (c.of-4.ensures, c.of-3.ensures, c.of-2.ensures, c.of.ensures, w.self-inside-is) (wrote ∙ rw c.self.invariant.0 (row_set (with_parked c.args.object) (λ r. refl) all c.args.sid.0 row (found ∙ ap option_copied_mut w.in-Some.is)), parked_unparked c.args.object all c.args.sid.0 (rw (← c.self.view_is) at c.requires) c.self.invariant.1)
      | in_default w ↦
          rw (c.of-4.ensures, c.of-3.ensures, c.of-2.ensures, c.of.ensures, w.self-inside-is) (c.get_mut.follows.holds-at-none ∙ rw c.self.invariant.0 (row_absent (with_parked c.args.object) (λ r. refl) all c.args.sid.0 (found ∙ ap option_copied_mut w.in_default.is)), parked_unparked c.args.object all c.args.sid.0 (rw (← c.self.view_is) at c.requires) c.self.invariant.1)
    ]
