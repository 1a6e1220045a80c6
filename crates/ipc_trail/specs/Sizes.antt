-- About how many bytes records take.
use Rattle.std.specs.Prelude.{ℕ, ◌+◌, ◌-◌, List, length, take, Option, Some, None}
use Rattle.std.specs.List.{sum_by}
use Rattle.ipc_terms.specs.History.{History, Message, message_of}
use Rattle.ipc_terms.specs.Lines.{event_name}
use Rattle.ipc_terms.specs.declared.record.Event.{Event}
use Rattle.ipc_terms.specs.declared.record.Record.{Record}

-- how many bytes a message has; none, where there is none
abbrev pub message_length : Option Message → ℕ
message_length None = 0
message_length (Some m) = length m.bytes

-- how many bytes a name has; none, where there is none
abbrev pub name_length : Option (List ℕ) → ℕ
name_length None = 0
name_length (Some name) = length name

-- with its share of the list that it stands in
abbrev pub event_bytes : Event → ℕ
event_bytes e = message_length (message_of e) + name_length (event_name e) + 128

-- of the records from the place `first` on
abbrev pub kept_bytes : ℕ → History → ℕ
kept_bytes first h = sum_by (λ (r : Record). event_bytes r.event) (take (length h - first) h)
