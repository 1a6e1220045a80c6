use Rattle.ipc_terms.specs.History.{Message}
use Rattle.ipc_state.proofs.Accepted.{caller_lives}
use Rattle.ipc_state.proofs.Serving.{queue_stands}
use Rattle.ipc_state.proofs.Timing.{IsSending, sending, agrees_sends}
use Rattle.ipc_state.proofs.accept.accept_send.Goals as goal
use Rattle.ipc_state.proofs.accept.accept_send.Goals.{After-object_held-object}

abbrev brought : After-object_held-object → Message
brought c = record { priority = c.args.priority; bytes = c.args.bytes.now }

sends : (c : After-object_held-object) → IsSending c.args.config.now c.args.past.now.history c.args.tables.now c.args.sid c.args.call.now (brought c) c.object_held-object.result
sends c = sending _ _ _ c.args.sid c.args.call.now (brought c) _ c.requires.core.agrees c.requires.sends c.requires.accepted (rw c.requires.held at c.object_held-object.ensures)

pub send-requires-clause-there : goal.send-requires-clause-there
send-requires-clause-there c = queue_stands _ _ _ _ _ _ c.requires.core.legal c.requires.core.agrees (sends (goal.at.send-requires-clause-there c).After-object_held-object).here

pub send-requires-clause-live : goal.send-requires-clause-live
send-requires-clause-live c = caller_lives _ _ _ c.args.sid c.args.call.now c.requires.core.agrees c.requires.accepted

pub returns-clause-ok : goal.returns-clause-ok
returns-clause-ok c = rw (c.in_ok-send.ensures.ok, c.len.ensures.count) (agrees_sends _ _ _ c.args.sid c.args.call.now (brought (goal.at.returns-clause-ok c).After-object_held-object) _ c.requires.core (sends (goal.at.returns-clause-ok c).After-object_held-object))
