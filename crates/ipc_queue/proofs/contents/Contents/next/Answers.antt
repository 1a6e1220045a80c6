use Rattle.std.proofs.Common.{sym, ap, ◌∙◌}
use Rattle.ipc_queue.specs.Tickets.{next_ticket}
use Rattle.ipc_queue.specs.Contents.{present, of_priority}
use Rattle.ipc_queue.proofs.Standing.{next_found, no_next}
use Rattle.ipc_queue.proofs.contents.Contents.next.Goals as goal

pub returns-in_err-ticket : goal.returns-in_err-ticket
returns-in_err-ticket c =
    let tickets = present c.self.inside.past.value in
    rw c.from_residual.ensures (sym (no_next tickets (c.in_err-ticket.ensures (λ priority. of_priority priority tickets) c.self.invariant.0)) ∙ ap (λ ts. next_ticket ts) c.self.view_is)

pub returns : goal.returns
returns c =
    let tickets = present c.self.inside.past.value in
    let found = next_found tickets _ _ (c.in_ok-ticket.ensures (λ priority. of_priority priority tickets) c.self.invariant.0) in
    sym found.0 ∙ ap (λ ts. next_ticket ts) c.self.view_is
