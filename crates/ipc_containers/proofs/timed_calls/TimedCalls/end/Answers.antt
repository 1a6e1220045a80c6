use Rattle.std.proofs.Common.{◌≡◌, None, Some, sym, ap, ◌∙◌}
use Rattle.std.specs.Ordering.{nat_cmp}
use Rattle.std.specs.BTreeMap.{get}
use Rattle.ipc_containers.specs.Sessions.{without_session}
use Rattle.ipc_containers.proofs.KeptPlaces.{written, kept_end, kept_none, call_goes, none_goes}
use Rattle.ipc_containers.proofs.timed_calls.TimedCalls.end.Goals as goal

pub invariant_of-self : goal.invariant_of-self
invariant_of-self c =
    let calls = c.self.inside.deadlines in
    let here = sym c.in-Some.ensures.value in
    let updates = c.remove.ensures.updates in
    rw (c.remove-in-Some.ensures, call_goes _ calls c.args.sid.0 c.in-Some.place c.self.invariant here) (kept_end _ _ calls c.args.sid.0 c.in-Some.place c.self.invariant here (written c.self.inside.places c.remove.new.self c.args.sid.0 None updates.1 updates.2))

pub returns-in-Some : goal.returns-in-Some
returns-in-Some c =
    let calls = c.self.inside.deadlines in
    c.remove-in-Some.ensures ∙ call_goes _ calls c.args.sid.0 c.in-Some.place c.self.invariant (sym c.in-Some.ensures.value) ∙ ap (without_session c.args.sid.0) c.self.view_is

pub returns-in_default : goal.returns-in_default
returns-in_default c =
    let none : get nat_cmp c.self.inside.places c.args.sid.0 ≡ None = sym c.remove.ensures.value ∙ c.in_default.is in
    none_goes (get nat_cmp c.self.inside.places) c.self.inside.deadlines c.args.sid.0 c.self.invariant none ∙ ap (without_session c.args.sid.0) c.self.view_is
