use Rattle.std.proofs.Common.{[], ◌∷◌, ◌++◌, ap, ◌∙◌}
use Rattle.ipc_containers.proofs.Holding.{still_held, entered}
use Rattle.ipc_containers.proofs.Arrivals.{rise_push, insert_last, remove_last, values_push, numbers_push}
use Rattle.ipc_containers.proofs.waiters.Waiters.park.Goals as goal

pub invariant_of-self-in-Err : goal.invariant_of-self-in-Err
invariant_of-self-in-Err g c =
    let calls = c.self.inside.calls.entries in
    let next = c.self.inside.next in
    rw (c.remove.ensures.entries, c.in_ok-insert.ensures.entries, insert_last 0 calls next c.args.call c.self.invariant.rising, remove_last 0 calls next c.args.call c.self.invariant.rising)
    record {
      rising = c.self.invariant.rising;
      held = still_held c.self.inside.numbers c.enter.new.self _ c.self.invariant.held c.in-Err.ensures.err c.in-Err.ensures.alone;
    }

pub returns-in-Err-clause-err : goal.returns-in-Err-clause-err
returns-in-Err-clause-err g c =
    let calls = c.self.inside.calls.entries in
    let next = c.self.inside.next in
    rw (c.remove.ensures.entries, c.in_ok-insert.ensures.entries, insert_last 0 calls next c.args.call c.self.invariant.rising, remove_last 0 calls next c.args.call c.self.invariant.rising) c.self.view_is

pub invariant_of-self-2 : goal.invariant_of-self-2
invariant_of-self-2 g c =
    let caller = g.T.Waiting.caller in
    let calls = c.self.inside.calls.entries in
    let next = c.self.inside.next in
    rw (c.in_ok-insert.ensures.entries, insert_last 0 calls next c.args.call c.self.invariant.rising, c.in-Some.ensures.1)
    record {
      rising = rise_push 0 calls next c.args.call c.self.invariant.rising;
      held = entered c.self.inside.numbers c.enter.new.self _ _ c.session-session.result.0 next c.self.invariant.held c.in_default-enter.ensures.ok c.in_default-enter.ensures.alone (λ q. rw c.session-session.ensures (numbers_push caller q calls next c.args.call));
    }

pub returns-clause-ok : goal.returns-clause-ok
returns-clause-ok g c =
    let calls = c.self.inside.calls.entries in
    let next = c.self.inside.next in
    rw (c.in_ok-insert.ensures.entries, insert_last 0 calls next c.args.call c.self.invariant.rising)
    (values_push calls next c.args.call ∙ ap (λ l. l ++ c.args.call ∷ []) c.self.view_is)
