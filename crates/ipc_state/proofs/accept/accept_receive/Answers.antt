use Rattle.ipc_state.proofs.Accepted.{caller_lives}
use Rattle.ipc_state.proofs.Serving.{queue_stands}
use Rattle.ipc_state.proofs.Timing.{IsReceiving, receiving, agrees_receives}
use Rattle.ipc_state.proofs.accept.accept_receive.Goals as goal
use Rattle.ipc_state.proofs.accept.accept_receive.Goals.{After-object_held}

receives : (c : After-object_held) → IsReceiving c.args.config.now c.args.past.now.history c.args.tables.now c.args.sid c.args.call.now c.object_held.result
receives c = receiving _ _ _ c.args.sid c.args.call.now _ c.requires.core.agrees c.requires.receives c.requires.accepted (rw c.requires.held at c.object_held.ensures)

pub receive-requires-clause-there : goal.receive-requires-clause-there
receive-requires-clause-there c = queue_stands _ _ _ _ _ _ c.requires.core.legal c.requires.core.agrees (receives (goal.at.receive-requires-clause-there c).After-object_held).here

pub receive-requires-clause-live : goal.receive-requires-clause-live
receive-requires-clause-live c = caller_lives _ _ _ c.args.sid c.args.call.now c.requires.core.agrees c.requires.accepted

pub returns-clause-ok : goal.returns-clause-ok
returns-clause-ok c = rw c.in_ok-receive.ensures.ok (agrees_receives _ _ _ c.args.sid c.args.call.now _ c.requires.core (receives (goal.at.returns-clause-ok c).After-object_held))
