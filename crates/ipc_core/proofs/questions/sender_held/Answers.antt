use Rattle.std.proofs.Common.{sym, ap, ◌∙◌}
use Rattle.std.specs.Prelude.{option_and_then}
use Rattle.std.specs.Option.{option_copied, option_map}
use Rattle.ipc_terms.specs.Lists.{first}
use Rattle.ipc_queue.specs.declared.queue.ParkedSend.{ParkedSend}
use Rattle.ipc_queue.specs.Tickets.{Tickets}
use Rattle.ipc_core.proofs.ByDescription.{sender_by}
use Rattle.ipc_core.proofs.questions.sender_held.Goals as goal

pub returns-in_err-queue : goal.returns-in_err-queue
returns-in_err-queue c =
    let queue = sym (ap option_copied c.in_err-queue.was) ∙ c.queue.ensures in
    c.from_residual.ensures ∙ ap (option_and_then (λ (q : Tickets). option_map (λ (m : ParkedSend). m.session) (first q.senders))) queue ∙ sender_by _ _ c.args.lookup.now.event

pub returns : goal.returns
returns c =
    let queue = sym (ap option_copied c.in_ok-queue.was) ∙ c.queue.ensures in
    c.sender.ensures ∙ ap (option_and_then (λ (q : Tickets). option_map (λ (m : ParkedSend). m.session) (first q.senders))) queue ∙ sender_by _ _ c.args.lookup.now.event
