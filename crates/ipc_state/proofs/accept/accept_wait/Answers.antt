use Rattle.ipc_state.proofs.Accepted.{caller_lives}
use Rattle.ipc_state.proofs.Posting.{semaphore_stands}
use Rattle.ipc_state.proofs.Timing.{IsWaiting, waiting, agrees_waits}
use Rattle.ipc_state.proofs.accept.accept_wait.Goals as goal
use Rattle.ipc_state.proofs.accept.accept_wait.Goals.{After-object_held}

waits : (c : After-object_held) → IsWaiting c.args.config.now c.args.past.now.history c.args.tables.now c.args.sid c.args.call.now c.object_held.result
waits c = waiting _ _ _ c.args.sid c.args.call.now _ c.requires.core.agrees c.requires.waits c.requires.accepted (rw c.requires.held at c.object_held.ensures)

pub wait-requires-clause-there : goal.wait-requires-clause-there
wait-requires-clause-there c = semaphore_stands _ _ _ _ _ _ c.requires.core.legal c.requires.core.agrees (waits (goal.at.wait-requires-clause-there c).After-object_held).here

pub wait-requires-clause-live : goal.wait-requires-clause-live
wait-requires-clause-live c = caller_lives _ _ _ c.args.sid c.args.call.now c.requires.core.agrees c.requires.accepted

pub returns-clause-ok : goal.returns-clause-ok
returns-clause-ok c = rw c.in_ok-wait.ensures.ok (agrees_waits _ _ _ c.args.sid c.args.call.now _ c.requires.core (waits (goal.at.returns-clause-ok c).After-object_held))
