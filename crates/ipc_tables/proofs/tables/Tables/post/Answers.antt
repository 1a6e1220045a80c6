use Rattle.std.proofs.Common.{refl}
use Rattle.std.specs.Prelude.{option_and_then}
use Rattle.ipc_terms.specs.Lists.{first}
use Rattle.ipc_sem.specs.Counters.{Counter, posted}
use Rattle.ipc_tables.specs.Steps.{parked_by_post, after_post}
use Rattle.ipc_tables.proofs.CallTables.{Called, called}
use Rattle.ipc_tables.proofs.Parts.{semaphore_part}
use Rattle.ipc_tables.proofs.StandingLemmas.{keeps_semaphore}
use Rattle.ipc_tables.proofs.tables.Tables.post.Goals as goal
use Rattle.ipc_tables.proofs.tables.Tables.post.Goals.{In-Ok}

posts : (c : In-Ok) → Called c.self.inside (c.semaphore_mut.follows.lender c.post.new.self) c.in-Ok.served parked_by_post (after_post c.args.self.now c.args.object)
posts c = called semaphore_part c.args.object c.self.inside c.in-Some.semaphore c.post.new.self c.semaphore_mut.ensures.value c.in-Some.is (c.semaphore_mut.follows.holds c.post.new.self) c.self.invariant c.self.view_is posted (option_and_then (λ (q : Counter). first q.waiters)) _ _ (keeps_semaphore c.self.inside.descriptions.rows c.args.object posted) c.in-Ok.ensures.ok c.in-Ok.ensures.served

pub invariant_of-self : goal.invariant_of-self
invariant_of-self c = (posts (goal.at.invariant_of-self c).In-Ok).stands

pub invariant_of-self-in_default-served : goal.invariant_of-self-in_default-served
invariant_of-self-in_default-served c = (posts (goal.at.invariant_of-self-in_default-served c).In-Ok).stands

pub returns-in-Some-served : goal.returns-in-Some-served
returns-in-Some-served c = (posts (goal.at.returns-in-Some-served c).In-Ok).tables _ _ c.in-Some-served.is c.set_parked.ensures

pub returns-in_default-served : goal.returns-in_default-served
returns-in_default-served c = (posts (goal.at.returns-in_default-served c).In-Ok).tables _ _ c.in_default-served.is refl
