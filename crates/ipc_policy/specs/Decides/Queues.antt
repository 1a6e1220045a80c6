-- What sends, receives and withdrawals make of a queue.
use Rattle.std.specs.Prelude.{Bool, true, false, ℕ, ◌||◌, ◌==◌, not, nat_le, List, [], ◌∷◌, ◌++◌, length, filter, Option, Some, None, if◌then◌else◌}
use Rattle.std.specs.Option.{option_to_list}
use Rattle.ipc_terms.specs.Lists.{first}
use Rattle.ipc_terms.specs.Objects.{as_queue}
use Rattle.ipc_terms.specs.Priorities.{first_of_greatest}
use Rattle.ipc_terms.specs.Timed.{plain}
use Rattle.ipc_terms.specs.declared.call.Attributes.{Attributes}
use Rattle.ipc_terms.specs.declared.call.Call.TheVariants.{MqSend, MqReceive, Interrupt}
use Rattle.ipc_terms.specs.declared.record.Event.{Event}
use Rattle.ipc_terms.specs.declared.record.Event.TheVariants.{Do, Hangup, Tick}
use Rattle.ipc_policy.specs.declared.config.Config.{Config}
use Rattle.ipc_policy.specs.declared.config.Held.{Held}
use Rattle.ipc_policy.specs.Decides.History.{History}
use Rattle.ipc_policy.specs.Decides.Objects.{object}
use Rattle.ipc_policy.specs.Decides.Life.{gives_object}

-- a message that was sent: the place of its send, who sent it by which description, and what
pub record Send : Type 0 where
  pub place : ℕ
  pub session : ℕ
  pub desc : ℕ
  pub priority : ℕ
  pub bytes : List ℕ

-- a receive, or a wait for a semaphore: its place, and who made it by which description
pub record Waiter : Type 0 where
  pub place : ℕ
  pub session : ℕ
  pub desc : ℕ

-- what an event does to one queue
pub data Act : Type 0 where
  Sends : Send → Act
  Receives : Waiter → Act
  Withdraws : ℕ → Act
  NoAct : Act

-- a tick withdraws the parked call of the session that is due, where one is
abbrev pub withdrawal : Option ℕ → Act
withdrawal None = NoAct
withdrawal (Some s) = Withdraws s

-- what an event that is no timed call does to queue o, by the event's place, what each session holds, and which session
-- is due at which moment; an interrupt and a hang-up withdraw the parked call of their session, wherever it is, and a tick
-- that of the session that is due
abbrev pub plain_act : ℕ → (ℕ → ℕ → Option Held) → (ℕ → Option ℕ) → ℕ → Event → Act
plain_act place holds due o (Do sid (MqSend desc priority bytes)) = if gives_object o (holds sid.0 desc.0) then Sends (record { place = place; session = sid.0; desc = desc.0; priority = priority; bytes = bytes }) else NoAct
plain_act place holds due o (Do sid (MqReceive desc length')) = if gives_object o (holds sid.0 desc.0) then Receives (record { place = place; session = sid.0; desc = desc.0 }) else NoAct
plain_act place holds due o (Do sid Interrupt) = Withdraws sid.0
plain_act place holds due o (Hangup sid) = Withdraws sid.0
plain_act place holds due o (Tick moment) = withdrawal (due moment)
plain_act place holds due o _ = NoAct

-- what any event does to queue o: a timed call does what it does without its deadline
abbrev pub act_by : ℕ → (ℕ → ℕ → Option Held) → (ℕ → Option ℕ) → ℕ → Event → Act
act_by place holds due o e = plain_act place holds due o (plain e)

-- the message that a receive takes: the earliest of those with the greatest priority
abbrev pub next : List Send → Option Send
next messages = first_of_greatest (λ m. m.priority) messages

-- all but that one
abbrev pub others : Option Send → List Send → List Send
others None messages = messages
others (Some n) messages = filter (λ m. not (m.place == n.place)) messages

-- what entered a queue and was not taken, in order of entry; and the sends and the receives that are parked on
-- it, longest parked first
pub record Queue : Type 0 where
  pub contents : List Send
  pub senders : List Send
  pub receivers : List Waiter

-- a queue at its creation
abbrev pub empty_queue : Queue
empty_queue = record { contents = []; senders = []; receivers = [] }

-- all but the first
abbrev pub tail : {A : Type 0} → List A → List A
tail [] = []
tail (x ∷ xs) = xs

-- there is nothing in the list
abbrev pub has_none : {A : Type 0} → List A → Bool
has_none [] = true
has_none (x ∷ xs) = false

-- there are as many as there may be
abbrev pub is_filled : {A : Type 0} → ℕ → List A → Bool
is_filled most xs = nat_le most (length xs)

-- a send enters, unless the queue is full or a parked receive takes the message at once; a receive takes the next
-- message, and lets the longest parked send enter behind what is left
abbrev pub contents_after : ℕ → Act → Queue → List Send
contents_after maxmsg (Sends m) q = if is_filled maxmsg q.contents || not (has_none q.receivers) then q.contents else q.contents ++ m ∷ []
contents_after maxmsg (Receives w) q = others (next q.contents) q.contents ++ option_to_list (first q.senders)
contents_after maxmsg (Withdraws s) q = q.contents
contents_after maxmsg NoAct q = q.contents

-- a send to a full queue parks; a receive lets the longest parked send enter; an interrupt, a hang-up or a tick withdraws
abbrev pub senders_after : ℕ → Act → Queue → List Send
senders_after maxmsg (Sends m) q = if is_filled maxmsg q.contents then q.senders ++ m ∷ [] else q.senders
senders_after maxmsg (Receives w) q = tail q.senders
senders_after maxmsg (Withdraws s) q = filter (λ m. not (m.session == s)) q.senders
senders_after maxmsg NoAct q = q.senders

-- a receive from an empty queue parks; a send is taken by the longest parked receive; an interrupt, a hang-up or a tick
-- withdraws
abbrev pub receivers_after : Act → Queue → List Waiter
receivers_after (Sends m) q = tail q.receivers
receivers_after (Receives w) q = if has_none q.contents then q.receivers ++ w ∷ [] else q.receivers
receivers_after (Withdraws s) q = filter (λ w. not (w.session == s)) q.receivers
receivers_after NoAct q = q.receivers

-- a queue of so many messages at most after an act
abbrev pub queue_after : ℕ → Act → Queue → Queue
queue_after maxmsg a q = record { contents = contents_after maxmsg a q; senders = senders_after maxmsg a q; receivers = receivers_after a q }

-- how many messages a queue may have: 0 where there is no queue
abbrev pub maxmsg_of : Option Attributes → ℕ
maxmsg_of None = 0
maxmsg_of (Some x) = x.maxmsg

-- the attributes of object o, where it is a queue
abbrev pub attributes : Config → History → ℕ → Option Attributes
attributes c h o = as_queue (object c h o)

-- how many messages queue o may have
abbrev pub maxmsg : Config → History → ℕ → ℕ
maxmsg c h o = maxmsg_of (attributes c h o)
