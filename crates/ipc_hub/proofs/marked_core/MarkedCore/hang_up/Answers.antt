use Rattle.std.proofs.Common.{ap}
use Rattle.ipc_hub.specs.Marking.{MarksView}
use Rattle.ipc_hub.proofs.OwnerLemmas.{hung_up_owners}
use Rattle.ipc_hub.proofs.MarkedLemmas.{hung_up_follows}
use Rattle.ipc_hub.proofs.marked_core.MarkedCore.hang_up.Goals as goal

pub invariant_of-self-2 : goal.invariant_of-self-2
invariant_of-self-2 c = hung_up_owners c.self.inside.core c.post_marked.new.core c.args.sid c.self.inside.marks.owners c.post_marked.new.marks.owners c.end_session.new.self.owners c.in_ok-post_marked.ensures.ok (ap (λ (m : MarksView). m.owners) c.in_ok-post_marked.ensures.marks.same) (ap (λ (m : MarksView). m.owners) c.end_session.ensures) c.self.invariant

pub returns-clause-marks : goal.returns-clause-marks
returns-clause-marks c = hung_up_follows c.args.self.now c.self.inside.core c.post_marked.new.core c.self.inside.marks c.post_marked.new.marks c.end_session.new.self c.args.sid c.self.view_is c.self.invariant.count c.in_ok-post_marked.ensures.ok c.in_ok-post_marked.ensures.marks c.end_session.ensures
