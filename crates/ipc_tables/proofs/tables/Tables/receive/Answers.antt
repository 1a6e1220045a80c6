use Rattle.std.proofs.Common.{◌≡◌, Some, refl, ap}
use Rattle.std.specs.Option.{option_map}
use Rattle.ipc_queue.specs.Tickets.{receive_outcome, received}
use Rattle.ipc_tables.specs.contracts.tables.Tables.{the_view}
use Rattle.ipc_tables.specs.Standing.{IsStanding}
use Rattle.ipc_tables.specs.Steps.{parked_by_receive, after_receive}
use Rattle.ipc_tables.proofs.CallTables.{Called, called, refused}
use Rattle.ipc_tables.proofs.Parts.{queue_part}
use Rattle.ipc_tables.proofs.TableChanges.{on_err}
use Rattle.ipc_tables.proofs.StandingLemmas.{keeps_receive}
use Rattle.ipc_tables.proofs.tables.Tables.receive.Goals as goal
use Rattle.ipc_tables.proofs.tables.Tables.receive.Goals.{In_ok-receive, In_err-receive}

receives : (c : In_ok-receive) → Called c.self.inside (c.queue_mut.follows.lender c.receive.new.self) (Some c.in_ok-receive.field-0) (parked_by_receive c.args.object c.args.sid) (after_receive c.args.self.now c.args.object c.args.sid)
receives c = called queue_part c.args.object c.self.inside c.in-Some.queue c.receive.new.self c.queue_mut.ensures.value c.in-Some.is (c.queue_mut.follows.holds c.receive.new.self) c.self.invariant c.self.view_is (received c.args.sid) (option_map receive_outcome) _ _ (keeps_receive c.self.inside.descriptions.rows c.args.object c.args.sid) c.in_ok-receive.ensures.ok (ap Some c.in_ok-receive.ensures.outcome)

refuses : (c : In_err-receive) → IsStanding c.self.inside.queues c.self.inside.semaphores c.self.inside.descriptions.rows (c.queue_mut.follows.lender c.receive.new.self) × (the_view (record c.self.inside { objects = c.queue_mut.follows.lender c.receive.new.self }) ≡ c.args.self.now)
refuses c = refused queue_part c.args.object c.self.inside c.in-Some.queue c.receive.new.self c.queue_mut.ensures.value c.in-Some.is (c.queue_mut.follows.holds c.receive.new.self) c.self.invariant c.self.view_is c.in_err-receive.ensures.err

pub invariant_of-self : goal.invariant_of-self
invariant_of-self c = (refuses (goal.at.invariant_of-self c).In_err-receive).0

pub returns-in_err-receive-clause-err : goal.returns-in_err-receive-clause-err
returns-in_err-receive-clause-err c = on_err c.from_residual.result (refuses (goal.at.returns-in_err-receive-clause-err c).In_err-receive).1

pub invariant_of-self-in-Took : goal.invariant_of-self-in-Took
invariant_of-self-in-Took c = (receives (goal.at.invariant_of-self-in-Took c).In_ok-receive).stands

pub invariant_of-self-in-TookAndAdmitted : goal.invariant_of-self-in-TookAndAdmitted
invariant_of-self-in-TookAndAdmitted c = (receives (goal.at.invariant_of-self-in-TookAndAdmitted c).In_ok-receive).stands

pub invariant_of-self-in-Parked : goal.invariant_of-self-in-Parked
invariant_of-self-in-Parked c = (receives (goal.at.invariant_of-self-in-Parked c).In_ok-receive).stands

pub returns-in-Took-clause-ok : goal.returns-in-Took-clause-ok
returns-in-Took-clause-ok c = (receives (goal.at.returns-in-Took-clause-ok c).In_ok-receive).tables _ _ (ap Some c.in-Took.is) refl

pub returns-in-TookAndAdmitted-clause-ok : goal.returns-in-TookAndAdmitted-clause-ok
returns-in-TookAndAdmitted-clause-ok c = (receives (goal.at.returns-in-TookAndAdmitted-clause-ok c).In_ok-receive).tables _ _ (ap Some c.in-TookAndAdmitted.is) c.set_parked.ensures

pub returns-in-Parked-clause-ok : goal.returns-in-Parked-clause-ok
returns-in-Parked-clause-ok c = (receives (goal.at.returns-in-Parked-clause-ok c).In_ok-receive).tables _ _ (ap Some c.in-Parked.is) c.set_parked-in-Parked.ensures
