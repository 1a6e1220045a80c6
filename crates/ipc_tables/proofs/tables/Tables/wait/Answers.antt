use Rattle.std.proofs.Common.{◌≡◌, Some, refl, ap}
use Rattle.std.specs.Option.{option_map}
use Rattle.ipc_sem.specs.Counters.{wait_outcome, waited}
use Rattle.ipc_tables.specs.contracts.tables.Tables.{the_view}
use Rattle.ipc_tables.specs.Standing.{IsStanding}
use Rattle.ipc_tables.specs.Steps.{parked_by_wait, after_wait}
use Rattle.ipc_tables.proofs.CallTables.{Called, called, refused}
use Rattle.ipc_tables.proofs.Parts.{semaphore_part}
use Rattle.ipc_tables.proofs.TableChanges.{on_err}
use Rattle.ipc_tables.proofs.StandingLemmas.{keeps_semaphore}
use Rattle.ipc_tables.proofs.tables.Tables.wait.Goals as goal
use Rattle.ipc_tables.proofs.tables.Tables.wait.Goals.{In_ok-wait, In_err-wait}

waits : (c : In_ok-wait) → Called c.self.inside (c.semaphore_mut.follows.lender c.wait.new.self) (Some c.in_ok-wait.field-0) (parked_by_wait c.args.object c.args.sid) (after_wait c.args.self.now c.args.object c.args.sid)
waits c = called semaphore_part c.args.object c.self.inside c.in-Some.semaphore c.wait.new.self c.semaphore_mut.ensures.value c.in-Some.is (c.semaphore_mut.follows.holds c.wait.new.self) c.self.invariant c.self.view_is (waited c.args.sid) (option_map wait_outcome) _ _ (keeps_semaphore c.self.inside.descriptions.rows c.args.object (waited c.args.sid)) c.in_ok-wait.ensures.ok (ap Some c.in_ok-wait.ensures.outcome)

refuses : (c : In_err-wait) → IsStanding c.self.inside.queues c.self.inside.semaphores c.self.inside.descriptions.rows (c.semaphore_mut.follows.lender c.wait.new.self) × (the_view (record c.self.inside { objects = c.semaphore_mut.follows.lender c.wait.new.self }) ≡ c.args.self.now)
refuses c = refused semaphore_part c.args.object c.self.inside c.in-Some.semaphore c.wait.new.self c.semaphore_mut.ensures.value c.in-Some.is (c.semaphore_mut.follows.holds c.wait.new.self) c.self.invariant c.self.view_is c.in_err-wait.ensures.err

pub invariant_of-self : goal.invariant_of-self
invariant_of-self c = (refuses (goal.at.invariant_of-self c).In_err-wait).0

pub returns-in_err-wait-clause-err : goal.returns-in_err-wait-clause-err
returns-in_err-wait-clause-err c = on_err c.from_residual.result (refuses (goal.at.returns-in_err-wait-clause-err c).In_err-wait).1

pub invariant_of-self-in-Passed : goal.invariant_of-self-in-Passed
invariant_of-self-in-Passed c = (waits (goal.at.invariant_of-self-in-Passed c).In_ok-wait).stands

pub invariant_of-self-in-Parked : goal.invariant_of-self-in-Parked
invariant_of-self-in-Parked c = (waits (goal.at.invariant_of-self-in-Parked c).In_ok-wait).stands

pub returns-in-Passed-clause-ok : goal.returns-in-Passed-clause-ok
returns-in-Passed-clause-ok c = (waits (goal.at.returns-in-Passed-clause-ok c).In_ok-wait).tables _ _ (ap Some c.in-Passed.is) refl

pub returns-in-Parked-clause-ok : goal.returns-in-Parked-clause-ok
returns-in-Parked-clause-ok c = (waits (goal.at.returns-in-Parked-clause-ok c).In_ok-wait).tables _ _ (ap Some c.in-Parked.is) c.set_parked.ensures
