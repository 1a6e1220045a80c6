use Rattle.std.proofs.Common.{sym, ap, ◌∙◌}
use Rattle.std.specs.Prelude.{option_and_then}
use Rattle.std.specs.Option.{option_copied, option_map}
use Rattle.ipc_queue.specs.Tickets.{Tickets, next_ticket}
use Rattle.ipc_state.proofs.HeldQueues.{carried}
use Rattle.ipc_core.proofs.ByDescription.{message_by}
use Rattle.ipc_core.proofs.questions.next_held.Goals as goal

pub returns-in_err-queue : goal.returns-in_err-queue
returns-in_err-queue c =
    let queue = sym (ap option_copied c.in_err-queue.was) ∙ c.queue.ensures in
    c.from_residual.ensures ∙ ap (option_and_then (λ (q : Tickets). option_map carried (next_ticket q.tickets))) queue ∙ message_by _ _ c.args.lookup.now.event

pub returns-in_err-next : goal.returns-in_err-next
returns-in_err-next c =
    let queue = sym (ap option_copied c.in_ok-queue.was) ∙ c.queue.ensures in
    let next = ap (option_map carried) (sym (ap option_copied c.in_err-next.was) ∙ c.next_message.ensures) in
    c.from_residual-in_err-next.ensures ∙ next ∙ ap (option_and_then (λ (q : Tickets). option_map carried (next_ticket q.tickets))) queue ∙ message_by _ _ c.args.lookup.now.event

pub returns : goal.returns
returns c =
    let queue = sym (ap option_copied c.in_ok-queue.was) ∙ c.queue.ensures in
    let next = ap (option_map carried) (sym (ap option_copied c.in_ok-next.was) ∙ c.next_message.ensures) in
    next ∙ ap (option_and_then (λ (q : Tickets). option_map carried (next_ticket q.tickets))) queue ∙ message_by _ _ c.args.lookup.now.event
