use Rattle.std.proofs.Common.{[], ◌∷◌, ◌++◌, length, ap, sym, ◌∙◌, arith}
use Rattle.std.specs.Option.{option_copied}
use Rattle.ipc_queue.specs.Tickets.{Tickets, without_next}
use Rattle.ipc_queue.proofs.Leaving.{none_left, none_leaves, some_left, taken, let_in}
use Rattle.ipc_queue.proofs.queue.Queue.receive.Goals as goal

pub invariant_of-self-in-Some : goal.invariant_of-self-in-Some
invariant_of-self-in-Some c =
    let inside = c.self.inside in
    let queue : Tickets = record { maxmsg = inside.maxmsg; msgsize = inside.msgsize; tickets = inside.contents; senders = inside.senders; receivers = inside.receivers; registered = inside.registered } in
    let_in queue c.pop_and_push.new.self c.serve.new.self c.in-Some.sender.now c.serve.result c.self.invariant (some_left inside.contents c.in_ok-place.place c.in_ok-place.ensures.next) (sym c.first.ensures ∙ ap option_copied c.in-Some.is) (c.in_ok-place.ensures.ok ∙ ap (λ t. without_next inside.contents ++ t ∷ []) c.in_ok-ticket.ensures.cases) c.serve.ensures.first c.serve.ensures.rest

pub returns-in_err-park-clause-without_memory : goal.returns-in_err-park-clause-without_memory
returns-in_err-park-clause-without_memory c =
    let none = none_left c.self.inside.contents (sym c.in_default-pop.is ∙ c.pop.ensures.next) in
    let same = ap (λ (q : Tickets). length q.tickets) c.self.view_is in
    λ some alone. absurd (omega arith)

pub invariant_of-self-in_default-pop : goal.invariant_of-self-in_default-pop
invariant_of-self-in_default-pop c =
    let none = sym c.in_default-pop.is ∙ c.pop.ensures.next in
    rw (c.pop.ensures.rest, none_leaves c.self.inside.contents none)
    record {
      some_messages = c.self.invariant.some_messages;
      some_bytes = c.self.invariant.some_bytes;
      within = c.self.invariant.within;
      receivers_at_empty = λ parked. none_left c.self.inside.contents none;
      senders_at_full = c.self.invariant.senders_at_full;
    }

pub invariant_of-self-in-Some-pop : goal.invariant_of-self-in-Some-pop
invariant_of-self-in-Some-pop c =
    let inside = c.self.inside in
    let queue : Tickets = record { maxmsg = inside.maxmsg; msgsize = inside.msgsize; tickets = inside.contents; senders = inside.senders; receivers = inside.receivers; registered = inside.registered } in
    taken queue c.pop.new.self c.self.invariant (some_left inside.contents c.in-Some-pop.place c.in-Some-pop.ensures.next) (sym c.first.ensures ∙ ap option_copied c.in_default.is) c.pop.ensures.rest
