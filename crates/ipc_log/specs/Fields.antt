-- The fields of a trail's head and of its records.
use Rattle.std.specs.Prelude.{◌≡◌, ℕ, ◌==◌, ◌^◌, ◌&&◌, List, [], ◌∷◌, Option, Some, None, option_map, Result, Ok, Err, Bool, true, false, nat_lt, if◌then◌else◌}
use Rattle.ipc_terms.specs.Rules.{number_of}
use Rattle.ipc_terms.specs.declared.call.Call.{Call}
use Rattle.ipc_terms.specs.declared.rule.Rule.{Rule}
use Rattle.ipc_terms.specs.declared.record.Record.{Record}
use Rattle.ipc_terms.specs.declared.record.Event.{Event}
use Rattle.ipc_terms.specs.declared.record.Event.TheVariants as event
use Rattle.ipc_fields.specs.declared.fault.WireFault.{WireFault}
use Rattle.ipc_fields.specs.declared.fault.WireFault.TheVariants.{BadField}
use Rattle.ipc_fields.specs.Field.{◌>>=◌, ◌⊕◌, Field, Body, byte, u32, u64, optional, coded, seen, ◌⊗◌, only}
use Rattle.ipc_fields.specs.Terms.{sid_field, uid_field}
use Rattle.ipc_wire.specs.declared.request.Request.{Request}
use Rattle.ipc_wire.specs.declared.request.Request.TheVariants as request
use Rattle.ipc_wire.specs.Requests.{is_plain, plain, fits}
use Rattle.ipc_wire.specs.Answers.{rule_of}
use Rattle.ipc_wire.specs.Streams.{spell, front}
use Rattle.ipc_log.specs.declared.retelling.TrailDigest.{TrailDigest}
use Rattle.ipc_log.specs.declared.head.Head.{Head}
use Rattle.ipc_log.specs.declared.retelling.Retelling.{Retelling}

-- ---- a head

abbrev pub digest_of : ℕ × (ℕ × (ℕ × ℕ)) → TrailDigest
digest_of x = record { 0 = x.0; 1 = x.1.0; 2 = x.1.1.0; 3 = x.1.1.1 }

abbrev pub digest_parts : TrailDigest → ℕ × (ℕ × (ℕ × ℕ))
digest_parts d = (d.0, (d.1, (d.2, d.3)))

unfoldable pub digest_field : Field TrailDigest
digest_field = seen digest_of digest_parts (u64 ⊗ u64 ⊗ u64 ⊗ u64)

abbrev pub retelling_of : ℕ × (ℕ × (ℕ × TrailDigest)) → Retelling
retelling_of x = record { generation = x.0; records = x.1.0; old_records = x.1.1.0; old_digest = x.1.1.1 }

abbrev pub retelling_parts : Retelling → ℕ × (ℕ × (ℕ × TrailDigest))
retelling_parts r = (r.generation, (r.records, (r.old_records, r.old_digest)))

unfoldable pub retelling_field : Field Retelling
retelling_field = seen retelling_of retelling_parts (u64 ⊗ u64 ⊗ u64 ⊗ digest_field)

abbrev pub head_of : ℕ × (ℕ × (ℕ × (ℕ × (ℕ × Retelling)))) → Head
head_of x = record { first = x.0; msg_max = x.1.0; msgsize_max = x.1.1.0; queues_max = x.1.1.1.0; users = x.1.1.1.1.0; retelling = x.1.1.1.1.1 }

abbrev pub head_parts : Head → ℕ × (ℕ × (ℕ × (ℕ × (ℕ × Retelling))))
head_parts h = (h.first, (h.msg_max, (h.msgsize_max, (h.queues_max, (h.users, h.retelling)))))

unfoldable pub head_field : Field Head
head_field = seen head_of head_parts (u64 ⊗ u32 ⊗ u32 ⊗ u32 ⊗ u64 ⊗ retelling_field)

-- ---- a record

-- 0 for an accepted event, else the number of the rule that refused it
abbrev pub verdict_code : Option Rule → ℕ
verdict_code None = 0
verdict_code (Some rule) = number_of rule

abbrev pub verdict_of : ℕ → Option (Option Rule)
verdict_of n = if n == 0 then Some None else option_map (λ rule. Some rule) (rule_of n)

unfoldable pub verdict_field : Field (Option Rule)
verdict_field = coded verdict_code (λ v. true) verdict_of byte

-- a call, as the frame of its request; the frame has its own length
abbrev pub call_read : Option (Request × List ℕ) → Result (Call × List ℕ) WireFault
call_read None = Err BadField
call_read (Some (request.Hello key, w)) = Err BadField
call_read (Some (request.Do asked, w)) = Ok (asked, w)

unfoldable pub call_field : Field Call
call_field = record {
  spell = λ asked. spell (request.Do asked);
  is_plain = λ asked. is_plain (request.Do asked);
  read = λ w. front false w >>= call_read;
}

-- a byte that tells the kind of the event, and its fields
abbrev pub event_spelled : Event → Option (List ℕ)
event_spelled (event.Hello found) = Some (1 ∷ []) ⊕ (optional uid_field).spell found
event_spelled (event.Do sid asked) = Some (2 ∷ []) ⊕ (sid_field ⊗ call_field).spell (sid, asked)
event_spelled (event.Hangup sid) = Some (3 ∷ []) ⊕ sid_field.spell sid
event_spelled (event.Tick moment) = Some (4 ∷ []) ⊕ u64.spell moment

abbrev pub event_plain : Event → Bool
event_plain (event.Hello found) = (optional uid_field).is_plain found
event_plain (event.Do sid asked) = (sid_field ⊗ call_field).is_plain (sid, asked)
event_plain (event.Hangup sid) = sid_field.is_plain sid
event_plain (event.Tick moment) = u64.is_plain moment

abbrev pub event_of : ℕ → List ℕ → Result (Event × List ℕ) WireFault
event_of kind w =
    if kind == 1 then (optional uid_field).read w >>= (λ x. Ok (event.Hello x.0, x.1))
    else if kind == 2 then (sid_field ⊗ call_field).read w >>= (λ x. Ok (event.Do x.0.0 x.0.1, x.1))
    else if kind == 3 then sid_field.read w >>= (λ x. Ok (event.Hangup x.0, x.1))
    else if kind == 4 then u64.read w >>= (λ x. Ok (event.Tick x.0, x.1))
    else Err BadField

unfoldable pub event_field : Field Event
event_field = record {
  spell = event_spelled;
  is_plain = event_plain;
  read = λ w. byte.read w >>= λ kind. event_of kind.0 kind.1;
}

abbrev pub record_of : Option Rule × Event → Record
record_of x = record { event = x.1; rule = x.0 }

abbrev pub record_parts : Record → Option Rule × Event
record_parts r = (r.rule, r.event)

unfoldable pub record_field : Field Record
record_field = seen record_of record_parts (verdict_field ⊗ event_field)

-- a record behind its place, and no more
abbrev pub entry : Body (ℕ × Record)
entry = only (u64 ⊗ record_field)

-- ---- flags that mean nothing

abbrev pub call_of : Call → Request → Call
call_of asked (request.Do other) = other
call_of asked (request.Hello key) = asked

-- the record without the flags that mean nothing to its call
abbrev pub plain_event : Event → Event
plain_event (event.Do sid asked) = event.Do sid (call_of asked (plain (request.Do asked)))
plain_event other = other

abbrev pub plain_record : Record → Record
plain_record r = record { event = plain_event r.event; rule = r.rule }

-- each number is within its type
abbrev pub event_fits : Event → Bool
event_fits (event.Hello found) = (optional uid_field).is_plain found
event_fits (event.Do sid asked) = sid_field.is_plain sid && fits (request.Do asked)
event_fits (event.Hangup sid) = sid_field.is_plain sid
event_fits (event.Tick moment) = u64.is_plain moment

abbrev pub record_fits : ℕ → Record → Bool
record_fits place r = nat_lt place (2 ^ 64) && event_fits r.event

-- a frame spells the event's call, if it is one
abbrev pub HasFrame : Event → Type 0
HasFrame (event.Do sid asked) = (text : List ℕ) × (spell (request.Do asked) ≡ Some text)
HasFrame other = Unit {0}
