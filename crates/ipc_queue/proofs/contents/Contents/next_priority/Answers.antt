use Rattle.std.proofs.Common.{subst}
use Rattle.ipc_containers.specs.Buckets.{IsNextKey}
use Rattle.ipc_queue.specs.Contents.{present, of_priority}
use Rattle.ipc_queue.proofs.contents.Contents.next_priority.Goals as goal

pub returns : goal.returns
returns c =
    let tickets = present c.self.inside.past.value in
    subst (λ ts. IsNextKey (λ p. of_priority p ts) c.args.priority c.next_from.result) c.self.view_is (c.next_from.ensures (λ p. of_priority p tickets) c.self.invariant.0)
