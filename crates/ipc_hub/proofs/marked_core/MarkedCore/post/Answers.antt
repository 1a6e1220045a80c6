use Rattle.std.proofs.Common.{ap}
use Rattle.ipc_hub.specs.Marking.{MarksView}
use Rattle.ipc_hub.proofs.OwnerLemmas.{plain_owners}
use Rattle.ipc_hub.proofs.marked_core.MarkedCore.post.Goals as goal

pub invariant_of-self-2 : goal.invariant_of-self-2
invariant_of-self-2 c = plain_owners c.self.inside.core c.post_marked.new.core c.args.event c.self.inside.marks.owners c.post_marked.new.marks.owners c.requires c.in_ok-post_marked.ensures.ok (ap (λ (m : MarksView). m.owners) c.in_ok-post_marked.ensures.marks.same) c.self.invariant
