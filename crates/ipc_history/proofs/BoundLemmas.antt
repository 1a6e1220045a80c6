-- Bytes that are awaited are fewer than the longest record has.
use Rattle.std.proofs.Common.{◌≡◌, ◌≢◌, ℕ, ◌+◌, ◌<◌, ◌≤◌, Bool, true, false, cond, eqb, ltb, List, length, take, drop, Option, Some, None, Result, Ok, Err, refl, arith}
use Rattle.std.specs.Int.{w32, from_be_bytes}
use Rattle.std.proofs.lemmas.Bool.{ltb-true, ltb-false}
use Rattle.std.proofs.lemmas.List.{length-drop}
use Rattle.ipc_terms.specs.declared.record.Record.{Record}
use Rattle.ipc_fields.specs.declared.fault.WireFault.{WireFault}
use Rattle.ipc_fields.specs.Field.{only}
use Rattle.ipc_log.specs.declared.fault.TrailFault.{TrailFault}
use Rattle.ipc_log.specs.declared.fault.TrailFault.TheVariants.{BadMagic, BadLength, BadSum, BadPlace}
use Rattle.ipc_log.specs.declared.head.Head.{Head}
use Rattle.ipc_log.specs.Summed.{sum_of, same_bytes, summed_at}
use Rattle.ipc_log.specs.Fields.{head_field, entry}
use Rattle.ipc_log.specs.Trail.{and_then, magic, head_len, head_read, head_front, max_length, body_behind, body_front, around_body, entry_read, record_front}

-- ---- where nothing is found, and nothing is at fault

-- of two things, the second of which is found or at fault, the first isn't there
none_first : {A B : Type 0} (r : Result (Option A) TrailFault) (f : A → Result (Option B) TrailFault) → ((x : A) → f x ≢ Ok None) → and_then r f ≡ Ok None → r ≡ Ok None
none_first (Err e) f some k = absurd cc
none_first (Ok None) f some k = refl
none_first (Ok (Some x)) f some k = absurd (some x k)

short_or : (short : Bool) (n m : ℕ) (r : Result (Option (List ℕ)) TrailFault) → ltb n m ≡ short → r ≢ Ok None → cond short (Ok None) r ≡ Ok None → n < m
short_or true n m r is some e = ltb-true n m is
short_or false n m r is some e = absurd (some e)

tested_some : (same : Bool) (x : List ℕ) → cond same (Ok (Some x)) (Err BadSum) ≢ Ok None
tested_some true x e = absurd cc
tested_some false x e = absurd cc

summed_none : (n : ℕ) (w : List ℕ) → summed_at n w ≡ Ok None → length w < n + 4
unfolding summed_at
summed_none n w e =
    short_or (ltb (length w) (n + 4)) (length w) (n + 4) (cond (same_bytes (take 4 (drop n w)) (sum_of (take n w))) (Ok (Some (take n w))) (Err BadSum)) refl
    (tested_some (same_bytes (take 4 (drop n w)) (sum_of (take n w))) (take n w)) e

-- ---- a record

abbrev found_record : Record → ℕ → Result (Option (Record × ℕ)) TrailFault
found_record x n = Ok (Some (x, n))

placed_some : (same : Bool) (x : Record) (n : ℕ) → cond same (found_record x n) (Err BadPlace) ≢ Ok None
placed_some true x n e = absurd cc
placed_some false x n e = absurd cc

entry_some : (place taken : ℕ) (read : Result (ℕ × Record) WireFault) → entry_read place taken read ≢ Ok None
entry_some place taken (Err f) e = absurd cc
entry_some place taken (Ok x) e = placed_some (eqb x.0 place) x.1 taken e

bounded_none : (over : Bool) (n : ℕ) (r : Result (Option (List ℕ)) TrailFault) → ltb max_length n ≡ over → cond over (Err BadLength) r ≡ Ok None → (n ≤ max_length) × (r ≡ Ok None)
bounded_none true n r is e = absurd cc
bounded_none false n r is e = (ltb-false max_length n is, e)

length_none : (w p : List ℕ) → body_behind w (from_be_bytes w32 p) ≡ Ok None → length w ≤ 16777333
length_none w p e =
    let n : ℕ = from_be_bytes w32 p in
    let b = bounded_none (ltb max_length n) n (summed_at n (drop 8 w)) refl e in
    omega (arith, b.0, summed_none n (drop 8 w) b.1, length-drop 8 w)

body_none : (w : List ℕ) (len : Result (Option (List ℕ)) TrailFault) → summed_at 4 w ≡ len → and_then len (λ p. body_behind w (from_be_bytes w32 p)) ≡ Ok None → length w ≤ 16777333
body_none w (Err f) is e = absurd cc
body_none w (Ok None) is e = omega (arith, summed_none 4 w is)
body_none w (Ok (Some p)) is e = length_none w p e

pub record_awaited : (place : ℕ) (w : List ℕ) → record_front place w ≡ Ok None → length w ≤ 16777333
unfolding record_front body_front
record_awaited place w e =
    body_none w (summed_at 4 w) refl
    (none_first (body_front w) (λ body. entry_read place (length body + around_body) (entry.read body)) (λ body. entry_some place (length body + around_body) (entry.read body)) e)

-- ---- a head

read_some : (r : Result Head WireFault) → head_read r ≢ Ok None
read_some (Err f) e = absurd cc
read_some (Ok h) e = absurd cc

head_none : (short same : Bool) (w : List ℕ) → ltb (length w) 8 ≡ short
    → cond short (Ok None) (cond same (and_then (summed_at head_len w) (λ text. head_read ((only head_field).read (drop 8 text)))) (Err BadMagic)) ≡ Ok None → length w ≤ 16777333
head_none true same w is e = omega (arith, ltb-true (length w) 8 is)
head_none false false w is e = absurd cc
head_none false true w is e =
    omega (arith, summed_none head_len w (none_first (summed_at head_len w) (λ text. head_read ((only head_field).read (drop 8 text))) (λ text. read_some ((only head_field).read (drop 8 text))) e))

pub head_awaited : (w : List ℕ) → head_front w ≡ Ok None → length w ≤ 16777333
unfolding head_front
head_awaited w e = head_none (ltb (length w) 8) (same_bytes (take 8 w) magic) w refl e
