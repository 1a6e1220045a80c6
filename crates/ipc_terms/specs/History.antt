-- A history is a list of records, the newest first. What came before a record is the list behind it, and
-- the record's place is how many records came before it.
use Rattle.std.specs.Prelude.{ℕ, ◌==◌, List, [], ◌∷◌, length, Option, Some, None, if◌then◌else◌, option_and_then}
use Rattle.ipc_terms.specs.declared.call.Call.TheVariants.{MqSend, MqTimedSend}
use Rattle.ipc_terms.specs.declared.record.Event.{Event}
use Rattle.ipc_terms.specs.declared.record.Event.TheVariants.{Do}
use Rattle.ipc_terms.specs.declared.record.Record.{Record}

abbrev pub History : Type 0
History = List Record

-- the record that has so many records before it
abbrev pub record_at : ℕ → History → Option Record
record_at place [] = None
record_at place (r ∷ before) = if length before == place then Some r else record_at place before

-- what a send brings
pub record Message : Type 0 where
  pub priority : ℕ
  pub bytes : List ℕ

-- the message that an event sends, if it is a send
abbrev pub message_of : Event → Option Message
message_of (Do sid (MqSend desc priority bytes)) = Some (record { priority = priority; bytes = bytes })
message_of (Do sid (MqTimedSend desc priority deadline bytes)) = Some (record { priority = priority; bytes = bytes })
message_of _ = None

-- the message of the send at a place, accepted or refused; none where no send stands
abbrev pub message_at : ℕ → History → Option Message
message_at place h = option_and_then (λ r. message_of r.event) (record_at place h)
