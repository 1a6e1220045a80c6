-- What holds of a queue from which the next ticket left.
use Rattle.std.proofs.Common.{◌≡◌, ℕ, ◌+◌, eq-eqb, true, List, [], ◌∷◌, ◌++◌, length, length-append, Option, Some, None, refl, ap, ◌∙◌, arith}
use Rattle.std.specs.List.{list_any}
use Rattle.std.specs.Option.{option_map, option_to_list}
use Rattle.ipc_terms.specs.Lists.{first, without_first}
use Rattle.ipc_terms.proofs.Removing.{one_less}
use Rattle.ipc_queue.specs.declared.queue.Ticket.{Ticket}
use Rattle.ipc_queue.specs.declared.queue.ParkedSend.{ParkedSend}
use Rattle.ipc_queue.specs.Tickets.{Tickets, IsQueue, is_ticket, next_ticket, next_place, without_next}
use Rattle.ipc_queue.proofs.Greatest.{first_passes, no_first}

itself : (ticket : Ticket) → is_ticket ticket ticket ≡ true
itself ticket = rw (eq-eqb ticket.place ticket.place refl, eq-eqb ticket.priority ticket.priority refl) refl

-- the next ticket is one of them
next_is_there : (tickets : List Ticket) (next : Ticket) → next_ticket tickets ≡ Some next → list_any (is_ticket next) tickets ≡ true
next_is_there tickets next e = first_passes (λ (t : Ticket). t.priority) (is_ticket next) tickets next e (itself next)

pub without_next_is : (tickets : List Ticket) (next : Ticket) → next_ticket tickets ≡ Some next → without_next tickets ≡ without_first (is_ticket next) tickets
without_next_is tickets next e = rw e refl

pub without_none : (tickets : List Ticket) → next_ticket tickets ≡ None → without_next tickets ≡ tickets
without_none tickets e = rw e refl

-- where there is no next ticket, there is none
pub none_there : (tickets : List Ticket) → next_ticket tickets ≡ None → length tickets ≡ 0
none_there tickets e = no_first (λ (t : Ticket). t.priority) tickets e

-- one less is left
pub one_left : (tickets : List Ticket) (next : Ticket) → next_ticket tickets ≡ Some next → length (without_next tickets) + 1 ≡ length tickets
one_left tickets next e = rw (without_next_is tickets next e) (one_less (is_ticket next) tickets (next_is_there tickets next e))

-- where there is no next place, there is none
pub none_left : (tickets : List Ticket) → None ≡ next_place tickets → length tickets ≡ 0
none_left tickets e = by (next_ticket tickets) refl e where
  by : (next : Option Ticket) → next_ticket tickets ≡ next → None ≡ option_map (λ t. t.place) next → length tickets ≡ 0
  by None f k = none_there tickets f
  by (Some t) f k = absurd cc

-- and none leaves
pub none_leaves : (tickets : List Ticket) → None ≡ next_place tickets → without_next tickets ≡ tickets
none_leaves tickets e = by (next_ticket tickets) refl e where
  by : (next : Option Ticket) → next_ticket tickets ≡ next → None ≡ option_map (λ t. t.place) next → without_next tickets ≡ tickets
  by None f k = without_none tickets f
  by (Some t) f k = absurd cc

-- where there is a next place, one less is left
pub some_left : (tickets : List Ticket) (place : ℕ) → Some place ≡ next_place tickets → length (without_next tickets) + 1 ≡ length tickets
some_left tickets place e = by (next_ticket tickets) refl e where
  by : (next : Option Ticket) → next_ticket tickets ≡ next → Some place ≡ option_map (λ t. t.place) next → length (without_next tickets) + 1 ≡ length tickets
  by None f k = absurd cc
  by (Some t) f k = one_left tickets t f

-- where none is first, there is none
none_first : {A : Type 0} (xs : List A) → first xs ≡ None → length xs ≡ 0
none_first [] e = refl
none_first (x ∷ xs) e = absurd cc

-- the first is served
served : {A : Type 0} (xs others : List A) (x : A) (result : Option A) → first xs ≡ Some x → result ≡ first xs → xs ≡ option_to_list result ++ others → length xs ≡ length others + 1
served xs others x result e f g = let size : length xs ≡ length (x ∷ others) = ap (λ l. length l) (g ∙ ap (λ o. option_to_list o ++ others) (f ∙ e)) in omega arith

-- no send was parked
pub taken : (q : Tickets) (left : List Ticket) → IsQueue q → length (without_next q.tickets) + 1 ≡ length q.tickets → first q.senders ≡ None → left ≡ without_next q.tickets → IsQueue (record q { tickets = left })
taken q left is less alone f =
    let none = none_first q.senders alone in
    let size = ap (λ (ts : List Ticket). length ts) f in
    record {
      some_messages = is.some_messages;
      some_bytes = is.some_bytes;
      within = let most = is.within in omega arith;
      receivers_at_empty = λ parked. let empty = is.receivers_at_empty parked in absurd (omega arith);
      senders_at_full = λ parked. absurd (omega arith);
    }

-- the longest parked send entered
pub let_in : (q : Tickets) (new : List Ticket) (others : List ParkedSend) (sender : ParkedSend) (result : Option ParkedSend) → IsQueue q → length (without_next q.tickets) + 1 ≡ length q.tickets → first q.senders ≡ Some sender → new ≡ without_next q.tickets ++ sender.ticket ∷ [] → result ≡ first q.senders → q.senders ≡ option_to_list result ++ others → IsQueue (record q { tickets = new; senders = others })
let_in q new others sender result is less e f g h =
    let one = served q.senders others sender result e g h in
    let size = ap (λ (ts : List Ticket). length ts) f ∙ length-append (without_next q.tickets) (sender.ticket ∷ []) in
    let full : length q.tickets ≡ q.maxmsg = is.senders_at_full (omega arith) in
    record {
      some_messages = is.some_messages;
      some_bytes = is.some_bytes;
      within = omega arith;
      receivers_at_empty = λ waits. let empty = is.receivers_at_empty waits in absurd (omega arith);
      senders_at_full = λ more. omega arith;
    }
