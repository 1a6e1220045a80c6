use Rattle.std.proofs.Common.{sym, ap, ◌∙◌, arith}
use Rattle.std.specs.Option.{option_map}
use Rattle.ipc_containers.proofs.Holding.{held_alike}
use Rattle.ipc_queue.specs.Tickets.{next_place, without_next}
use Rattle.ipc_queue.specs.Contents.{present, of_priority}
use Rattle.ipc_queue.proofs.Leaving.{without_none, one_left}
use Rattle.ipc_queue.proofs.Standing.{next_found, no_next, priority_without_next}
use Rattle.ipc_queue.proofs.contents.Contents.pop.Goals as goal

pub returns-in_err-ticket-clause-next : goal.returns-in_err-ticket-clause-next
returns-in_err-ticket-clause-next c =
    let tickets = present c.self.inside.past.value in
    c.from_residual.ensures ∙ ap (λ o. option_map (λ t. t.place) o) (sym (no_next tickets (c.in_err-ticket.ensures (λ priority. of_priority priority tickets) c.self.invariant.0).0)) ∙ ap (λ ts. next_place ts) c.self.view_is

pub returns-in_err-ticket-clause-rest : goal.returns-in_err-ticket-clause-rest
returns-in_err-ticket-clause-rest c =
    let tickets = present c.self.inside.past.value in
    let none = no_next tickets (c.in_err-ticket.ensures (λ priority. of_priority priority tickets) c.self.invariant.0).0 in
    sym (without_none tickets none) ∙ ap (λ ts. without_next ts) c.self.view_is

pub invariant_of-self : goal.invariant_of-self
invariant_of-self c =
    let tickets = present c.self.inside.past.value in
    ((c.in_err-ticket.ensures (λ priority. of_priority priority tickets) c.self.invariant.0).1, c.self.invariant.1)

pub invariant_of-self-2 : goal.invariant_of-self-2
invariant_of-self-2 c =
    let tickets = present c.self.inside.past.value in
    let left = c.in_ok-ticket.ensures (λ priority. of_priority priority tickets) c.self.invariant.0 in
    let found = next_found tickets _ _ left.1 in
    let less = one_left tickets c.in_ok-ticket.ticket found.0 in
    let count = c.self.invariant.1 in
    rw (c.of-2.ensures, c.of.ensures) (held_alike c.leave_greatest.new.self _ _ left.2 (λ q. rw (← found.1) (priority_without_next tickets c.in_ok-ticket.ticket q found.0)), omega arith)

pub returns-clause-next : goal.returns-clause-next
returns-clause-next c =
    let tickets = present c.self.inside.past.value in
    let found = next_found tickets _ _ (c.in_ok-ticket.ensures (λ priority. of_priority priority tickets) c.self.invariant.0).1 in
    ap (λ o. option_map (λ t. t.place) o) (sym found.0) ∙ ap (λ ts. next_place ts) c.self.view_is
