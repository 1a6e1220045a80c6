-- A trail in a file: a head, and then records. What spells each, and what stands in front of a file.
use Rattle.std.specs.Prelude.{◌≡◌, ℕ, ◌+◌, ◌≤◌, ◌==◌, List, ◌++◌, length, take, drop, Option, Some, None, Result, Ok, Err, true, nat_lt, nat_le, codes, if◌then◌else◌}
use Rattle.std.specs.Int.{w32, to_be_bytes, from_be_bytes}
use Rattle.ipc_terms.specs.declared.record.Record.{Record}
use Rattle.ipc_fields.specs.declared.fault.WireFault.{WireFault}
use Rattle.ipc_fields.specs.Field.{◌⊕◌, only}
use Rattle.ipc_log.specs.declared.fault.TrailFault.{TrailFault}
use Rattle.ipc_log.specs.declared.fault.TrailFault.TheVariants.{BadMagic, BadLength, BadFields, BadPlace}
use Rattle.ipc_log.specs.declared.head.Head.{Head}
use Rattle.ipc_log.specs.Summed.{summed, same_bytes, summed_at}
use Rattle.ipc_log.specs.Fields.{head_field, entry}

-- what is behind a value that was found, if one was
abbrev pub and_then : {A B : Type 0} → Result (Option A) TrailFault → (A → Result (Option B) TrailFault) → Result (Option B) TrailFault
and_then (Err e) f = Err e
and_then (Ok None) f = Ok None
and_then (Ok (Some x)) f = f x

-- ---- the head

abbrev pub magic : List ℕ
magic = codes "MQTRAIL2"

-- how many bytes stand in front of the head's sum
abbrev pub head_len : ℕ
head_len = 92

abbrev pub summed_text : Option (List ℕ) → Option (List ℕ)
summed_text None = None
summed_text (Some text) = Some (summed text)

-- The one byte string of a head.
unfoldable pub spell_head : Head → Option (List ℕ)
spell_head h = summed_text (Some magic ⊕ head_field.spell h)

abbrev pub head_read : Result Head WireFault → Result (Option (Head × ℕ)) TrailFault
head_read (Err f) = Err BadFields
head_read (Ok h) = Ok (Some (h, head_len + 4))

-- The head in front and how many bytes it takes; none as long as it isn't whole.
unfoldable pub head_front : List ℕ → Result (Option (Head × ℕ)) TrailFault
head_front w =
    if nat_lt (length w) 8 then Ok None
    else if same_bytes (take 8 w) magic then and_then (summed_at head_len w) (λ text. head_read ((only head_field).read (drop 8 text)))
    else Err BadMagic

-- ---- records

-- the longest body: a place, a verdict, a kind, a session, and a call by the longest frame
abbrev pub max_length : ℕ
max_length = 16777322

-- a length with its sum, and a body of this length with its sum
abbrev pub closed : Option (List ℕ) → Option (List ℕ)
closed None = None
closed (Some body) = if nat_le (length body) max_length then Some (summed (to_be_bytes w32 (length body)) ++ summed body) else None

-- The one byte string of a record at a place. None where no frame spells its call.
unfoldable pub spell_record : ℕ → Record → Option (List ℕ)
spell_record place r = closed (entry.spell (place, r))

-- the body behind a length and its sum
abbrev pub body_behind : List ℕ → ℕ → Result (Option (List ℕ)) TrailFault
body_behind w n = if nat_lt max_length n then Err BadLength else summed_at n (drop 8 w)

-- the body in front
unfoldable pub body_front : List ℕ → Result (Option (List ℕ)) TrailFault
body_front w = and_then (summed_at 4 w) (λ prefix. body_behind w (from_be_bytes w32 prefix))

-- how many bytes stand beside a body
abbrev pub around_body : ℕ
around_body = 12

abbrev pub entry_read : ℕ → ℕ → Result (ℕ × Record) WireFault → Result (Option (Record × ℕ)) TrailFault
entry_read place taken (Err f) = Err BadFields
entry_read place taken (Ok x) = if x.0 == place then Ok (Some (x.1, taken)) else Err BadPlace

-- The record in front, which must be that of the place, and how many bytes it takes; none as long as it isn't whole.
unfoldable pub record_front : ℕ → List ℕ → Result (Option (Record × ℕ)) TrailFault
record_front place w = and_then (body_front w) (λ body. entry_read place (length body + around_body) (entry.read body))

-- so many bytes in front spell this record, which has no flag that means nothing
pub record IsSpelledBy (place : ℕ) (w : List ℕ) (r : Record) (n : ℕ) : Type 0 where
  pub within : n ≤ length w
  pub spelled : spell_record place r ≡ Some (take n w)
  pub plain : entry.is_plain (place, r) ≡ true
