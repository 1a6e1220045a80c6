-- How messages stand in buckets by priority.
use Rattle.std.specs.Prelude.{ℕ, ◌==◌, List, [], ◌∷◌, ◌++◌, if◌then◌else◌}
use Rattle.ipc_queue.specs.declared.queue.Ticket.{Ticket}
use Rattle.ipc_queue.specs.declared.contents.Past.{Past}
use Rattle.ipc_queue.specs.declared.contents.Past.TheVariants.{Nothing, Entered', Left'}
use Rattle.ipc_queue.specs.Tickets.{without_next}

-- the tickets that entered and did not leave, in the order of entry
abbrev pub present : Past → List Ticket
present Nothing = []
present (Entered' ticket _ _ past) = present past ++ ticket.value ∷ []
present (Left' _ _ past) = without_next (present past)

-- the tickets of this priority, in the order of entry
abbrev pub of_priority : ℕ → List Ticket → List Ticket
of_priority priority [] = []
of_priority priority (ticket ∷ tickets) = if priority == ticket.priority then ticket ∷ of_priority priority tickets else of_priority priority tickets
