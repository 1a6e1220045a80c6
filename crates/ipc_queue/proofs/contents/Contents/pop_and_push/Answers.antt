use Rattle.std.proofs.Common.{[], ◌∷◌, length, length-append, sym, ap, ◌∙◌, arith}
use Rattle.std.specs.Option.{option_map}
use Rattle.ipc_containers.proofs.Holding.{still_held, entered, left}
use Rattle.ipc_queue.specs.Tickets.{next_place, without_next}
use Rattle.ipc_queue.specs.Contents.{present, of_priority}
use Rattle.ipc_queue.proofs.Leaving.{none_there, one_left}
use Rattle.ipc_queue.proofs.Standing.{priority_push, priority_exchanged, next_found, no_next}
use Rattle.ipc_queue.proofs.contents.Contents.pop_and_push.Goals as goal

pub unreachable-requires : goal.unreachable-requires
unreachable-requires c =
    let tickets = present c.self.inside.past.value in
    let none = none_there tickets (no_next tickets (c.in_default.ensures (λ priority. of_priority priority tickets) c.self.invariant.0)) in
    let same = ap (λ ts. length ts) c.self.view_is in
    let some = c.requires in
    omega arith

pub invariant_of-self : goal.invariant_of-self
invariant_of-self c = (still_held c.self.inside.buckets c.enter.new.self _ c.self.invariant.0 c.in_err-enter.ensures.err c.in_err-enter.ensures.alone, c.self.invariant.1)

pub invariant_of-self-2 : goal.invariant_of-self-2
invariant_of-self-2 c =
    let tickets = present c.self.inside.past.value in
    let found = next_found tickets _ _ (c.in-Some.ensures (λ priority. of_priority priority tickets) c.self.invariant.0) in
    let less = one_left tickets c.in-Some.next.now found.0 in
    let longer = length-append (without_next tickets) (c.args.ticket ∷ []) in
    let count = c.self.invariant.1 in
    let behind = entered c.self.inside.buckets c.enter.new.self (λ q. of_priority q tickets) _ c.args.ticket.priority c.args.ticket c.self.invariant.0 c.in_ok-enter.ensures.ok c.in_ok-enter.ensures.alone (λ q. priority_push q tickets c.args.ticket) in
    rw (c.of-3.ensures, c.of-2.ensures, c.of-left.ensures, c.of.ensures, c.of-entered.ensures)
    (left c.enter.new.self c.leave.new.self _ _ c.in-Some.priority behind c.leave.ensures.rest c.leave.ensures.alone (λ q. rw (← found.1) (priority_exchanged tickets c.in-Some.next.now c.args.ticket q found.0)), omega arith)

pub returns-clause-next : goal.returns-clause-next
returns-clause-next c =
    let tickets = present c.self.inside.past.value in
    let found = next_found tickets _ _ (c.in-Some.ensures (λ priority. of_priority priority tickets) c.self.invariant.0) in
    ap (λ o. option_map (λ t. t.place) o) (sym found.0) ∙ ap (λ ts. next_place ts) c.self.view_is
