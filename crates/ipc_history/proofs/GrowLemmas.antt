-- What stands whole in front of bytes stands there whatever follows them.
use Rattle.std.proofs.Common.{◌≡◌, ℕ, ◌+◌, ◌≤◌, Bool, true, false, cond, ltb, List, [], ◌∷◌, ◌++◌, length, take, drop, Option, Some, None, Result, Ok, Err, refl, sym, ap, ◌∙◌, append_assoc, arith}
use Rattle.std.specs.Int.{w32, from_be_bytes}
use Rattle.std.proofs.lemmas.Bool.{le-ltb, ltb-false}
use Rattle.std.proofs.lemmas.List.{take-append-le, drop-append-le, length-append, length-take}
use Rattle.std.proofs.lemmas.Option.{some_pair_parts}
use Rattle.ipc_terms.specs.declared.record.Record.{Record}
use Rattle.ipc_fields.specs.declared.fault.WireFault.{WireFault}
use Rattle.ipc_fields.specs.Field.{only}
use Rattle.ipc_log.specs.declared.fault.TrailFault.{TrailFault}
use Rattle.ipc_log.specs.declared.fault.TrailFault.TheVariants.{BadMagic, BadLength}
use Rattle.ipc_log.specs.declared.head.Head.{Head}
use Rattle.ipc_log.specs.Summed.{summed, same_bytes, summed_at}
use Rattle.ipc_log.specs.Fields.{head_field, entry}
use Rattle.ipc_log.specs.Trail.{and_then, magic, head_len, head_read, head_front, max_length, body_behind, body_front, around_body, entry_read, record_front}
use Rattle.ipc_log.proofs.SumLemmas.{summed_again, summed_found}
use Rattle.ipc_log.proofs.TrailLemmas.{record_within}
use Rattle.ipc_history.specs.Files.{IsHead, IsNext, Stand}

-- ---- a sum

summed_grow : (n : ℕ) (w more x : List ℕ) → summed_at n w ≡ Ok (Some x) → summed_at n (w ++ more) ≡ Ok (Some x)
summed_grow n w more x e =
    let s = summed_found n w x e in
    let len : length x ≡ n = omega (arith, ap length s.text_is, length-take n w, s.long) in
    let rest : List ℕ = drop (n + 4) w in
    let parts : w ++ more ≡ summed x ++ (rest ++ more) = ap (λ (z : List ℕ). z ++ more) s.parts ∙ append_assoc (summed x) rest more in
    ap (summed_at n) parts ∙ summed_again n x (rest ++ more) len

-- ---- a record

behind_found : {A B : Type 0} (r : Result (Option A) TrailFault) (f : A → Result (Option B) TrailFault) (y : B) → and_then r f ≡ Ok (Some y) → (x : A) × (r ≡ Ok (Some x)) × (f x ≡ Ok (Some y))
behind_found (Err e) f y k = absurd cc
behind_found (Ok None) f y k = absurd cc
behind_found (Ok (Some x)) f y k = (x, refl, k)

bounded : (b : Bool) (r : Result (Option (List ℕ)) TrailFault) (y : List ℕ) → cond b (Err BadLength) r ≡ Ok (Some y) → (b ≡ false) × (r ≡ Ok (Some y))
bounded true r y e = absurd cc
bounded false r y e = (refl, e)

body_grow : (w more body : List ℕ) → body_front w ≡ Ok (Some body) → body_front (w ++ more) ≡ Ok (Some body)
unfolding body_front
body_grow w more body e =
    let b = behind_found (summed_at 4 w) (λ p. body_behind w (from_be_bytes w32 p)) body e in
    let n : ℕ = from_be_bytes w32 b.0 in
    let c = bounded (ltb max_length n) (summed_at n (drop 8 w)) body b.2 in
    let long = summed_found 4 w b.0 b.1 in
    let tail : drop 8 (w ++ more) ≡ drop 8 w ++ more = drop-append-le 8 w more long.long in
    let behind : body_behind (w ++ more) n ≡ Ok (Some body) = rw (c.0, tail) (summed_grow n (drop 8 w) more body c.1) in
    ap (λ (f : Result (Option (List ℕ)) TrailFault). and_then f (λ p. body_behind (w ++ more) (from_be_bytes w32 p))) (summed_grow 4 w more b.0 b.1) ∙ behind

record_grow : (place n : ℕ) (w more : List ℕ) (x : Record) → record_front place w ≡ Ok (Some (x, n)) → record_front place (w ++ more) ≡ Ok (Some (x, n))
unfolding record_front
record_grow place n w more x e =
    let b = behind_found (body_front w) (λ body. entry_read place (length body + around_body) (entry.read body)) (x, n) e in
    ap (λ (f : Result (Option (List ℕ)) TrailFault). and_then f (λ body. entry_read place (length body + around_body) (entry.read body))) (body_grow w more b.0 b.1) ∙ b.2

-- ---- a head

abbrev tested : Bool → Bool → Result (Option (Head × ℕ)) TrailFault → Result (Option (Head × ℕ)) TrailFault
tested short same r = cond short (Ok None) (cond same r (Err BadMagic))

tested_some : (short same : Bool) (r : Result (Option (Head × ℕ)) TrailFault) (y : Head × ℕ) → tested short same r ≡ Ok (Some y) → (short ≡ false) × (same ≡ true) × (r ≡ Ok (Some y))
tested_some true same r y e = absurd cc
tested_some false false r y e = absurd cc
tested_some false true r y e = (refl, refl, e)

abbrev head_behind : List ℕ → Result (Option (Head × ℕ)) TrailFault
head_behind text = head_read ((only head_field).read (drop 8 text))

read_size : (r : Result Head WireFault) (h : Head) (n : ℕ) → head_read r ≡ Ok (Some (h, n)) → n ≡ head_len + 4
read_size (Err f) h n e = absurd cc
read_size (Ok x) h n e =
    let pairs : ◌≡◌ {A = Option (Head × ℕ)} (Some (x, head_len + 4)) (Some (h, n)) = cc in
    sym (some_pair_parts x h (head_len + 4) n pairs).1

-- a head is as long as it says, and is there
record IsHeadAt (w : List ℕ) (h : Head) (n : ℕ) : Type 0 where
  pub text : List ℕ
  pub long : 8 ≤ length w
  pub begins : same_bytes (take 8 w) magic ≡ true
  pub sum : summed_at head_len w ≡ Ok (Some text)
  pub read : head_behind text ≡ Ok (Some (h, n))
  pub within : n ≤ length w

head_found : (w : List ℕ) (h : Head) (n : ℕ) → head_front w ≡ Ok (Some (h, n)) → IsHeadAt w h n
unfolding head_front
head_found w h n e =
    let t = tested_some (ltb (length w) 8) (same_bytes (take 8 w) magic) (and_then (summed_at head_len w) head_behind) (h, n) e in
    let b = behind_found (summed_at head_len w) head_behind (h, n) t.2 in
    let size : n ≡ head_len + 4 = read_size ((only head_field).read (drop 8 b.0)) h n b.2 in
    let s = summed_found head_len w b.0 b.1 in
    record {
      text = b.0;
      long = ltb-false _ _ t.0;
      begins = t.1;
      sum = b.1;
      read = b.2;
      within = omega (arith, size, s.long);
    }

head_grow : (w more : List ℕ) (h : Head) (n : ℕ) → head_front w ≡ Ok (Some (h, n)) → head_front (w ++ more) ≡ Ok (Some (h, n))
unfolding head_front
head_grow w more h n e =
    let i = head_found w h n e in
    let long : ltb (length (w ++ more)) 8 ≡ false = le-ltb _ _ (omega (arith, i.long, length-append w more)) in
    let same : same_bytes (take 8 (w ++ more)) magic ≡ true = ap (λ (z : List ℕ). same_bytes z magic) (take-append-le 8 w more i.long) ∙ i.begins in
    rw (long, same, summed_grow head_len w more i.text i.sum) i.read

-- ---- what stands in front

pub head_open : (h : Head) (bytes rest more : List ℕ) → IsHead h bytes rest → IsHead h (bytes ++ more) (rest ++ more)
head_open h bytes rest more (n, found, is) =
    (n, head_grow bytes more h n found, ap (λ (z : List ℕ). z ++ more) is ∙ sym (drop-append-le n bytes more (head_found bytes h n found).within))

pub next_open : (place : ℕ) (r : Record) (bytes rest more : List ℕ) → IsNext place r bytes rest → IsNext place r (bytes ++ more) (rest ++ more)
next_open place r bytes rest more (n, found, is) =
    (n, record_grow place n bytes more r found, ap (λ (z : List ℕ). z ++ more) is ∙ sym (drop-append-le n bytes more (record_within place n bytes r found).1))

pub stand_open : (first : ℕ) (read : List Record) (bytes rest more : List ℕ) → Stand first read bytes rest → Stand first read (bytes ++ more) (rest ++ more)
stand_open first [] bytes rest more is = ap (λ (z : List ℕ). z ++ more) is
stand_open first (r ∷ older) bytes rest more (between, stand, next) =
    (between ++ more, stand_open first older bytes between more stand, next_open (length older + first) r between rest more next)
