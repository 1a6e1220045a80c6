use Rattle.ipc_terms.specs.declared.call.Call.TheVariants.{Interrupt}
use Rattle.ipc_state.proofs.Accepted.{caller_within}
use Rattle.ipc_state.proofs.Withdrawals.{agrees_interrupted}
use Rattle.ipc_state.proofs.accept.accept_interrupt.Goals as goal

pub returns : goal.returns
returns c = rw c.withdraw.ensures (agrees_interrupted _ _ _ c.args.sid c.requires.core (caller_within _ _ _ c.args.sid Interrupt c.requires.core.agrees c.requires.accepted))
