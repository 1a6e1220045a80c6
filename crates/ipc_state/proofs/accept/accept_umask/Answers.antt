use Rattle.ipc_state.proofs.Accepting.{agrees_masked}
use Rattle.ipc_state.proofs.accept.accept_umask.Goals as goal

pub returns : goal.returns
returns c = rw c.set_mask.ensures (agrees_masked _ _ _ c.args.sid c.args.mask c.requires.core.agrees)
