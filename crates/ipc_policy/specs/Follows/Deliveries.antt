-- Which event delivers which message, and to which receive.
use Rattle.std.specs.Prelude.{ℕ, ◌==◌, Option, Some, None, is_some, if◌then◌else◌, option_and_then}
use Rattle.std.specs.Option.{option_map}
use Rattle.ipc_terms.specs.Lists.{first}
use Rattle.ipc_terms.specs.Timed.{plain}
use Rattle.ipc_terms.specs.declared.record.Event.{Event}
use Rattle.ipc_terms.specs.declared.record.Event.TheVariants.{Do}
use Rattle.ipc_policy.specs.declared.config.Config.{Config}
use Rattle.ipc_policy.specs.Decides.History.{History, newest, how_many}
use Rattle.ipc_policy.specs.Decides.Descriptions.{holds}
use Rattle.ipc_policy.specs.Decides.Queues.{Send, Waiter, Act, Sends, Receives, Queue, is_filled, next, maxmsg}
use Rattle.ipc_policy.specs.Decides.Bodies.{act, queue}
use Rattle.ipc_policy.specs.Decides.Rules.{described}

-- a message of a queue, and the receive that gets it
pub record Delivery : Type 0 where
  pub object : ℕ
  pub message : Send
  pub receive : Waiter

-- a send that does not park gives its message to the longest parked receive, and a receive takes the next message
abbrev pub delivers : ℕ → ℕ → Act → Queue → Option Delivery
delivers maxmsg o (Sends m) q = if is_filled maxmsg q.contents then None else option_map (λ w. record { object = o; message = m; receive = w }) (first q.receivers)
delivers maxmsg o (Receives w) q = option_map (λ m. record { object = o; message = m; receive = w }) (next q.contents)
delivers maxmsg o _ q = None

-- the object that the description of a call gives
abbrev pub object_asked : History → Event → Option ℕ
object_asked before (Do sid call) = option_and_then (λ d. option_map (λ x. x.object) (holds before sid.0 d.desc.0)) (described call)
object_asked before _ = None

-- what an event delivers
unfoldable pub delivery : Config → Event → History → Option Delivery
delivery c e before = option_and_then (λ o. delivers (maxmsg c before o) o (act c o e before) (queue c before o)) (object_asked before (plain e))

-- the receive that gets the message of the send of place i
abbrev pub receive_of : ℕ → Option Delivery → Option Waiter
receive_of i None = None
receive_of i (Some x) = if x.message.place == i then Some x.receive else None

-- the receive that took the message of the send of place i
abbrev pub receive_that_took : Config → History → ℕ → Option Waiter
receive_that_took c h i = newest (λ e before. receive_of i (delivery c e before)) h

-- how many events delivered it
abbrev pub deliveries : Config → History → ℕ → ℕ
deliveries c h i = how_many (λ e before. is_some (receive_of i (delivery c e before))) h
