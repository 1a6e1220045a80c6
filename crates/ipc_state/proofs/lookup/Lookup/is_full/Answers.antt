use Rattle.std.proofs.Common.{ap, ◌∙◌}
use Rattle.ipc_queue.specs.Tickets.{is_full_of}
use Rattle.ipc_policy.specs.Decides.Rules.{is_some_and}
use Rattle.ipc_state.proofs.Looked.{full_meant}
use Rattle.ipc_state.proofs.lookup.Lookup.is_full.Goals as goal

pub returns : goal.returns
returns c = c.is_full_queue.ensures ∙ ap (is_some_and is_full_of) c.queue.ensures ∙ full_meant _ _ _
