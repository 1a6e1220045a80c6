use Rattle.std.proofs.Common.{ap, eqb, length, ◌∙◌}
use Rattle.ipc_queue.specs.Tickets.{Tickets}
use Rattle.ipc_policy.specs.Decides.Rules.{is_some_and}
use Rattle.ipc_state.proofs.Looked.{empty_meant}
use Rattle.ipc_state.proofs.lookup.Lookup.is_empty.Goals as goal

pub returns : goal.returns
returns c = c.is_empty_queue.ensures ∙ ap (is_some_and (λ (q : Tickets). eqb (length q.tickets) 0)) c.queue.ensures ∙ empty_meant _ _ _
