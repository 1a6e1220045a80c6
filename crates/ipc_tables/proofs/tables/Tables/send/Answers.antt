use Rattle.std.proofs.Common.{◌≡◌, Some, refl, ap}
use Rattle.std.specs.Option.{option_map}
use Rattle.ipc_queue.specs.declared.queue.Ticket.{Ticket}
use Rattle.ipc_queue.specs.Tickets.{send_outcome, sent}
use Rattle.ipc_tables.specs.contracts.tables.Tables.{the_view}
use Rattle.ipc_tables.specs.Standing.{IsStanding}
use Rattle.ipc_tables.specs.Steps.{parked_by_send, after_send}
use Rattle.ipc_tables.proofs.CallTables.{Called, called, refused}
use Rattle.ipc_tables.proofs.Parts.{queue_part}
use Rattle.ipc_tables.proofs.TableChanges.{on_err}
use Rattle.ipc_tables.proofs.StandingLemmas.{keeps_send}
use Rattle.ipc_tables.proofs.tables.Tables.send.Goals as goal
use Rattle.ipc_tables.proofs.tables.Tables.send.Goals.{In_ok-send_message, In_err-send_message}

abbrev ticket : In_ok-send_message → Ticket
ticket c = record { place = c.args.ticket; priority = c.args.priority; bytes = c.args.bytes.now }

sends : (c : In_ok-send_message) → Called c.self.inside (c.queue_mut.follows.lender c.send_message.new.self) (Some c.in_ok-send_message.field-0) (parked_by_send c.args.object c.args.sid) (after_send c.args.self.now c.args.object (ticket c) c.args.sid)
sends c = called queue_part c.args.object c.self.inside c.in-Some.queue c.send_message.new.self c.queue_mut.ensures.value c.in-Some.is (c.queue_mut.follows.holds c.send_message.new.self) c.self.invariant c.self.view_is (sent (ticket c) c.args.sid) (option_map send_outcome) _ _ (keeps_send c.self.inside.descriptions.rows c.args.object (ticket c) c.args.sid) c.in_ok-send_message.ensures.ok (ap Some c.in_ok-send_message.ensures.outcome)

refuses : (c : In_err-send_message) → IsStanding c.self.inside.queues c.self.inside.semaphores c.self.inside.descriptions.rows (c.queue_mut.follows.lender c.send_message.new.self) × (the_view (record c.self.inside { objects = c.queue_mut.follows.lender c.send_message.new.self }) ≡ c.args.self.now)
refuses c = refused queue_part c.args.object c.self.inside c.in-Some.queue c.send_message.new.self c.queue_mut.ensures.value c.in-Some.is (c.queue_mut.follows.holds c.send_message.new.self) c.self.invariant c.self.view_is c.in_err-send_message.ensures.err

pub invariant_of-self : goal.invariant_of-self
invariant_of-self c = (refuses (goal.at.invariant_of-self c).In_err-send_message).0

pub returns-in_err-send_message-clause-err : goal.returns-in_err-send_message-clause-err
returns-in_err-send_message-clause-err c = on_err c.from_residual.result (refuses (goal.at.returns-in_err-send_message-clause-err c).In_err-send_message).1

pub invariant_of-self-in-Queued : goal.invariant_of-self-in-Queued
invariant_of-self-in-Queued c = (sends (goal.at.invariant_of-self-in-Queued c).In_ok-send_message).stands

pub invariant_of-self-in-QueuedAndNotice : goal.invariant_of-self-in-QueuedAndNotice
invariant_of-self-in-QueuedAndNotice c = (sends (goal.at.invariant_of-self-in-QueuedAndNotice c).In_ok-send_message).stands

pub invariant_of-self-in-HandedTo : goal.invariant_of-self-in-HandedTo
invariant_of-self-in-HandedTo c = (sends (goal.at.invariant_of-self-in-HandedTo c).In_ok-send_message).stands

pub invariant_of-self-in-Parked : goal.invariant_of-self-in-Parked
invariant_of-self-in-Parked c = (sends (goal.at.invariant_of-self-in-Parked c).In_ok-send_message).stands

pub returns-in-Queued-clause-ok : goal.returns-in-Queued-clause-ok
returns-in-Queued-clause-ok c = (sends (goal.at.returns-in-Queued-clause-ok c).In_ok-send_message).tables _ _ (ap Some c.in-Queued.is) refl

pub returns-in-QueuedAndNotice-clause-ok : goal.returns-in-QueuedAndNotice-clause-ok
returns-in-QueuedAndNotice-clause-ok c = (sends (goal.at.returns-in-QueuedAndNotice-clause-ok c).In_ok-send_message).tables _ _ (ap Some c.in-QueuedAndNotice.is) refl

pub returns-in-HandedTo-clause-ok : goal.returns-in-HandedTo-clause-ok
returns-in-HandedTo-clause-ok c = (sends (goal.at.returns-in-HandedTo-clause-ok c).In_ok-send_message).tables _ _ (ap Some c.in-HandedTo.is) c.set_parked.ensures

pub returns-in-Parked-clause-ok : goal.returns-in-Parked-clause-ok
returns-in-Parked-clause-ok c = (sends (goal.at.returns-in-Parked-clause-ok c).In_ok-send_message).tables _ _ (ap Some c.in-Parked.is) c.set_parked-in-Parked.ensures
