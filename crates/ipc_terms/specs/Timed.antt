-- Timed calls: what each is without its deadline, and its deadline.
use Rattle.std.specs.Prelude.{ℕ, Option, Some, None}
use Rattle.ipc_terms.specs.declared.call.Call.{Call}
use Rattle.ipc_terms.specs.declared.call.Call.TheVariants.{MqSend, MqReceive, SemWait, MqTimedSend, MqTimedReceive, SemTimedWait}
use Rattle.ipc_terms.specs.declared.record.Event.{Event}
use Rattle.ipc_terms.specs.declared.record.Event.TheVariants.{Hello, Do, Hangup, Tick}

-- a timed call without its deadline; any other call as it is
abbrev pub plain_call : Call → Call
plain_call (MqTimedSend desc priority deadline bytes) = MqSend desc priority bytes
plain_call (MqTimedReceive desc size deadline) = MqReceive desc size
plain_call (SemTimedWait desc deadline) = SemWait desc
plain_call call = call

-- the event with its call so
abbrev pub plain : Event → Event
plain (Hello found) = Hello found
plain (Do sid call) = Do sid (plain_call call)
plain (Hangup sid) = Hangup sid
plain (Tick moment) = Tick moment

-- the deadline of a timed call
abbrev pub deadline_of : Call → Option ℕ
deadline_of (MqTimedSend desc priority deadline bytes) = Some deadline
deadline_of (MqTimedReceive desc size deadline) = Some deadline
deadline_of (SemTimedWait desc deadline) = Some deadline
deadline_of _ = None

-- the deadline of an event, where it is a timed call
abbrev pub deadline : Event → Option ℕ
deadline (Do sid call) = deadline_of call
deadline _ = None
