-- Each record whose call has a frame has a spelling.
use Rattle.std.proofs.Common.{◌≡◌, ℕ, ◌+◌, ◌≤◌, List, [], ◌∷◌, ◌++◌, length, Option, Some, None, refl, ap, ◌∙◌, arith}
use Rattle.std.specs.Int.{w32, w64, to_be_bytes}
use Rattle.std.proofs.lemmas.Bool.{le-leb}
use Rattle.std.proofs.lemmas.List.{length-append}
use Rattle.ipc_terms.specs.declared.record.Record.{Record}
use Rattle.ipc_terms.specs.declared.record.Event.{Event}
use Rattle.ipc_terms.specs.declared.record.Event.TheVariants as event
use Rattle.ipc_fields.specs.Field.{◌⊕◌, u64}
use Rattle.ipc_fields.proofs.FramingLemmas.{framed_some}
use Rattle.ipc_wire.specs.declared.request.Request.TheVariants as request
use Rattle.ipc_wire.specs.Requests.{request_body}
use Rattle.ipc_log.specs.Summed.{summed}
use Rattle.ipc_log.specs.Fields.{verdict_code, verdict_field, call_field, event_spelled, event_field, record_field, entry, HasFrame}
use Rattle.ipc_log.specs.Trail.{max_length, closed, spell_record}
use Rattle.ipc_log.proofs.TrailLemmas.{prefix}

-- the longest event: a kind, a session, and the longest frame
abbrev max_event : ℕ
max_event = 16777313

record IsShort (text : Option (List ℕ)) : Type 0 where
  pub bytes : List ℕ
  pub is : text ≡ Some bytes
  pub small : length bytes ≤ max_event

event_short : (v : Event) → HasFrame v → IsShort (event_spelled v)
unfolding call_field
event_short (event.Hello None) h = record { bytes = 1 ∷ 0 ∷ []; is = refl; small = omega arith }
event_short (event.Hello (Some uid)) h = record { bytes = 1 ∷ 1 ∷ to_be_bytes w32 uid.0; is = refl; small = omega arith }
event_short (event.Do sid asked) h =
    let f = framed_some (request_body (request.Do asked)) h.0 h.1 in
    let size : length h.0 ≡ 4 + length f.0 = ap length f.2.text_is ∙ length-append (to_be_bytes w32 (length f.0)) f.0 in
    record {
      bytes = 2 ∷ (to_be_bytes w64 sid.0 ++ h.0);
      is = ap (λ (t : Option (List ℕ)). Some (2 ∷ []) ⊕ (u64.spell sid.0 ⊕ t)) h.1;
      small = omega (arith, length-append (to_be_bytes w64 sid.0) h.0, size, f.2.small);
    }
event_short (event.Hangup sid) h = record { bytes = 3 ∷ to_be_bytes w64 sid.0; is = refl; small = omega arith }
event_short (event.Tick moment) h = record { bytes = 4 ∷ to_be_bytes w64 moment; is = refl; small = omega arith }

pub record_is_spelled : (place : ℕ) (x : Record) → HasFrame x.event → (text : List ℕ) × (spell_record place x ≡ Some text)
unfolding spell_record record_field verdict_field event_field
record_is_spelled place x h =
    let e = event_short x.event h in
    let front : List ℕ = to_be_bytes w64 place in
    let behind : List ℕ = verdict_code x.rule ∷ e.bytes in
    let body : List ℕ = front ++ behind in
    let body_is : entry.spell (place, x) ≡ Some body = ap (λ (t : Option (List ℕ)). u64.spell place ⊕ (Some (verdict_code x.rule ∷ []) ⊕ t)) e.is in
    let size : length body ≡ 8 + length behind = length-append front behind in
    let small : length body ≤ max_length = omega (arith, size, e.small) in
    (prefix (length body) ++ summed body, ap closed body_is ∙ rw (le-leb _ _ small) refl)
