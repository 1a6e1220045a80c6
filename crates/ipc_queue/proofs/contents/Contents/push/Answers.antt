use Rattle.std.proofs.Common.{[], ◌∷◌, length-append, arith}
use Rattle.ipc_containers.proofs.Holding.{still_held, entered}
use Rattle.ipc_queue.specs.Contents.{present, of_priority}
use Rattle.ipc_queue.proofs.Standing.{priority_push}
use Rattle.ipc_queue.proofs.contents.Contents.push.Goals as goal

pub invariant_of-self : goal.invariant_of-self
invariant_of-self c = (still_held c.self.inside.buckets c.enter.new.self _ c.self.invariant.0 c.in_err-enter.ensures.err c.in_err-enter.ensures.alone, c.self.invariant.1)

pub invariant_of-self-2 : goal.invariant_of-self-2
invariant_of-self-2 c =
    let tickets = present c.self.inside.past.value in
    let longer = length-append tickets (c.args.ticket ∷ []) in
    let count = c.self.invariant.1 in
    rw (c.of-2.ensures, c.of.ensures, c.of-entered.ensures)
    (entered c.self.inside.buckets c.enter.new.self (λ q. of_priority q tickets) _ c.args.ticket.priority c.args.ticket c.self.invariant.0 c.in_ok-enter.ensures.ok c.in_ok-enter.ensures.alone (λ q. priority_push q tickets c.args.ticket), omega arith)
