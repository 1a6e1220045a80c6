use Rattle.std.proofs.Common.{sym, subst}
use Rattle.ipc_policy.specs.Decides.History.{History}
use Rattle.ipc_replay.specs.HangingUp.{all_hung_up}
use Rattle.ipc_living.specs.Living.{AreSenders}
use Rattle.ipc_living.proofs.Noting.{notes_hung_up}
use Rattle.ipc_living.proofs.living.Living.after.Goals as goal

pub invariant_of-result : goal.invariant_of-result
invariant_of-result c = subst (λ (h : History). AreSenders c.args.senders h) (sym c.in_ok-state.ensures.history) (notes_hung_up c.args.senders.notes c.args.past.history c.requires)
