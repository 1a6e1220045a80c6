use Rattle.ipc_state.proofs.Accepting.{agrees_limited}
use Rattle.ipc_state.proofs.accept.accept_limit.Goals as goal

pub returns : goal.returns
returns c = rw c.set_limit.ensures (agrees_limited _ _ _ c.args.sid c.args.uid c.args.bytes c.requires.core.agrees)
