use Rattle.ipc_state.proofs.Accepted.{leaver_within}
use Rattle.ipc_state.proofs.Releases.{agrees_ended}
use Rattle.ipc_state.proofs.ChargeTables.{core_covered}
use Rattle.ipc_state.proofs.accept.accept_hangup.Goals as goal

pub end_session-requires : goal.end_session-requires
end_session-requires c = core_covered _ _ _ c.requires.core

pub returns : goal.returns
returns c = rw c.end_session.ensures (agrees_ended _ _ _ c.args.sid c.requires.core (leaver_within _ _ _ c.args.sid c.requires.core.agrees c.requires.accepted))
