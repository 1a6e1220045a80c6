-- Events.
use Rattle.std.specs.Prelude.{Bool, ◌==◌}
use Rattle.ipc_terms.specs.declared.ids.Sid.{Sid}
use Rattle.ipc_terms.specs.declared.record.Event.{Event}
use Rattle.ipc_terms.specs.declared.record.Event.TheVariants.{Hello, Do, Hangup, Tick}

-- the session that an event names; a hello and a tick name nobody
abbrev pub caller : Event → Sid
caller (Hello found) = record { 0 = 18446744073709551615 }
caller (Do sid call) = sid
caller (Hangup sid) = sid
caller (Tick moment) = record { 0 = 18446744073709551615 }

-- whether this is the session
abbrev pub is_session : Sid → Sid → Bool
is_session who sid = sid.0 == who.0
