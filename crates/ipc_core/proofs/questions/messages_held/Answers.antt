use Rattle.std.proofs.Common.{sym, ap, ◌∙◌, length, Some}
use Rattle.std.specs.Option.{option_copied, option_map}
use Rattle.ipc_queue.specs.Tickets.{Tickets}
use Rattle.ipc_core.proofs.ByDescription.{length_by}
use Rattle.ipc_core.proofs.questions.messages_held.Goals as goal

pub returns-in_err-queue : goal.returns-in_err-queue
returns-in_err-queue c =
    let queue = sym (ap option_copied c.in_err-queue.was) ∙ c.queue.ensures in
    c.from_residual.ensures ∙ ap (option_map (λ (q : Tickets). length q.tickets)) queue ∙ length_by _ _ c.args.lookup.now.event

pub returns : goal.returns
returns c =
    let queue = sym (ap option_copied c.in_ok-queue.was) ∙ c.queue.ensures in
    ap Some c.len.ensures.count ∙ ap (option_map (λ (q : Tickets). length q.tickets)) queue ∙ length_by _ _ c.args.lookup.now.event
