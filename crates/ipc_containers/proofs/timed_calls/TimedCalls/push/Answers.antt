use Rattle.std.proofs.Common.{◌≡◌, ◌∷◌, [], ◌++◌}
use Rattle.ipc_containers.proofs.KeptPlaces.{written, kept_back, kept_push}
use Rattle.ipc_containers.proofs.timed_calls.TimedCalls.push.Goals as goal

pub invariant_of-self-in-Err : goal.invariant_of-self-in-Err
invariant_of-self-in-Err c =
    let s = c.args.call.session.0 in
    let there = c.in_ok-insert.ensures.updates in
    let back = c.remove.ensures.updates in
    rw c.in-Err.ensures.err (kept_back _ _ _ c.self.inside.deadlines s c.args.call.place c.self.invariant (rw (← c.self.view_is) at c.requires.free) (written c.self.inside.places c.insert.new.self s _ there.1 there.2) (written c.insert.new.self c.remove.new.self s _ back.1 back.2))

pub invariant_of-self-in_default : goal.invariant_of-self-in_default
invariant_of-self-in_default c =
    let there = c.in_ok-insert.ensures.updates in
    rw c.in_default.ensures.ok (kept_push _ _ c.self.inside.deadlines c.args.call c.self.invariant (rw (← c.self.view_is) at c.requires.behind) (rw (← c.self.view_is) at c.requires.free) (written c.self.inside.places c.insert.new.self c.args.call.session.0 _ there.1 there.2))
