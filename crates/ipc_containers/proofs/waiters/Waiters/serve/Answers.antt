use Rattle.std.proofs.Common.{arith}
use Rattle.ipc_containers.proofs.Holding.{left}
use Rattle.ipc_containers.proofs.Arrivals.{rise_from, numbers_served}
use Rattle.ipc_containers.proofs.waiters.Waiters.serve.Goals as goal

pub invariant_of-self-2 : goal.invariant_of-self-2
invariant_of-self-2 g c =
    let caller = g.T.Waiting.caller in
    let left_calls = c.pop_first.new.self.entries in
    let rising = rw c.in_ok-call.ensures.removal at c.self.invariant.rising in
    let held = rw c.in_ok-call.ensures.removal at c.self.invariant.held in
    record {
      rising = rise_from 0 _ left_calls c.self.inside.next (omega arith) rising.1;
      held = left c.self.inside.numbers c.leave.new.self _ _ c.session.result.0 held c.leave.ensures.rest c.leave.ensures.alone (λ q. rw c.session.ensures (numbers_served caller q _ c.in_ok-call.call left_calls));
    }
