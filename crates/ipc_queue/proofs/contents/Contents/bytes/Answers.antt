use Rattle.std.proofs.Common.{ap, ◌∙◌}
use Rattle.std.specs.Prelude.{min}
use Rattle.ipc_containers.proofs.Holding.{held_alike}
use Rattle.ipc_queue.specs.Tickets.{bytes_in}
use Rattle.ipc_queue.specs.Contents.{present}
use Rattle.ipc_queue.proofs.Standing.{priority_filtered}
use Rattle.ipc_queue.proofs.contents.Contents.bytes.Goals as goal

pub returns : goal.returns
returns c =
    let tickets = present c.self.inside.past.value in
    c.size.ensures (λ ticket. ticket.priority) tickets (held_alike c.self.inside.buckets _ _ c.self.invariant.0 (λ q. priority_filtered q tickets)) ∙ ap (λ ts. min (bytes_in ts) 18446744073709551615) c.self.view_is
