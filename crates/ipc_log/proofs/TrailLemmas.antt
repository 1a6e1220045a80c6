-- Heads and records are read again, and are awaited as long as they aren't whole.
use Rattle.std.proofs.Common.{◌≡◌, ℕ, ◌+◌, ◌-◌, ◌<◌, ◌≤◌, Bool, true, false, cond, leb, ltb, eqb, List, [], ◌++◌, length, take, drop, Option, Some, None, Result, Ok, Err, refl, sym, ap, subst, ◌∙◌, append_assoc, inl, inr, arith}
use Rattle.std.specs.Prelude.{IfOk, IfSome}
use Rattle.std.specs.Int.{w32, to_be_bytes, from_be_bytes}
use Rattle.std.proofs.lemmas.Bool.{cases_lt, le-ltb, le-leb, ltb-false, leb-true, eq-eqb, eqb-true}
use Rattle.std.proofs.lemmas.Option.{some_pair_parts}
use Rattle.std.proofs.lemmas.List.{take_at, drop_at, take-take, take-append-drop, length-append, length-take, length-drop}
use Rattle.ipc_terms.specs.declared.record.Record.{Record}
use Rattle.ipc_fields.specs.declared.fault.WireFault.{WireFault}
use Rattle.ipc_fields.proofs.FieldLemmas.{IsBytes, IsBytes-take, IsBytes-drop, ok_is, wide32}
use Rattle.ipc_log.specs.declared.fault.TrailFault.{TrailFault}
use Rattle.ipc_log.specs.declared.fault.TrailFault.TheVariants.{BadLength, BadPlace}
use Rattle.ipc_log.specs.declared.fault.LogFault.{LogFault}
use Rattle.ipc_log.specs.Given.{Finds}
use Rattle.ipc_log.specs.Summed.{sum_of, summed, summed_at}
use Rattle.ipc_log.specs.Fields.{entry, plain_record, record_fits}
use Rattle.ipc_log.specs.Trail.{and_then, max_length, closed, spell_record, body_behind, body_front, around_body, entry_read, record_front, IsSpelledBy}
use Rattle.ipc_log.proofs.SumLemmas.{sum_len, summed_again, summed_short, IsSummed, summed_found}
use Rattle.ipc_log.proofs.EntryLemmas.{entry_exact, entry_reads}

-- ---- the length in front

abbrev pub prefix : ℕ → List ℕ
prefix n = summed (to_be_bytes w32 n)

pub prefix_len : (n : ℕ) → length (prefix n) ≡ 8
prefix_len n = refl

behind_prefix : (n : ℕ) (w : List ℕ) → n ≤ max_length → body_front (prefix n ++ w) ≡ summed_at n w
unfolding body_front
behind_prefix n w small =
    let text : List ℕ = prefix n ++ w in
    let four : summed_at 4 text ≡ Ok (Some (to_be_bytes w32 n)) = summed_again 4 (to_be_bytes w32 n) w refl in
    let back : from_be_bytes w32 (to_be_bytes w32 n) ≡ n = wide32.again n (omega arith) in
    let rest : drop 8 text ≡ w = drop_at (prefix n) w 8 (prefix_len n) in
    let within : ltb max_length n ≡ false = le-ltb _ _ small in
    let found : body_behind text n ≡ summed_at n (drop 8 text) = ap (λ (b : Bool). cond b (Err BadLength) (summed_at n (drop 8 text))) within in
    ap (λ (f : Result (Option (List ℕ)) TrailFault). and_then f (λ p. body_behind text (from_be_bytes w32 p))) four ∙ ap (body_behind text) back ∙ found ∙ ap (summed_at n) rest

short_prefix : (w : List ℕ) → length w < 8 → body_front w ≡ Ok None
unfolding body_front
short_prefix w lt = ap (λ (f : Result (Option (List ℕ)) TrailFault). and_then f (λ p. body_behind w (from_be_bytes w32 p))) (summed_short 4 w lt)

-- ---- what closes a body

pub record IsClosed (body text : List ℕ) : Type 0 where
  pub small : length body ≤ max_length
  pub text_is : text ≡ prefix (length body) ++ summed body

guard_some : {A : Type 0} (b : Bool) (x y : A) → cond b (Some x) None ≡ Some y → (b ≡ true) × (x ≡ y)
guard_some true x y e = (refl, cc)
guard_some false x y e = absurd cc

pub closed_some : (o : Option (List ℕ)) (text : List ℕ) → closed o ≡ Some text → (body : List ℕ) × (o ≡ Some body) × IsClosed body text
closed_some None text e = absurd cc
closed_some (Some body) text e =
    let g = guard_some (leb (length body) max_length) (prefix (length body) ++ summed body) text e in
    (body, refl, record { small = leb-true _ _ g.0; text_is = sym g.1 })

pub closed_len : (body text : List ℕ) → IsClosed body text → length text ≡ length body + around_body
closed_len body text c = rw c.text_is (omega (arith, length-append (prefix (length body)) (summed body), prefix_len (length body), length-append body (sum_of body), sum_len body))

body_again : (body text rest : List ℕ) → IsClosed body text → body_front (text ++ rest) ≡ Ok (Some body)
body_again body text rest c =
    let n : ℕ = length body in
    let regrouped : text ++ rest ≡ prefix n ++ (summed body ++ rest) = ap (λ (z : List ℕ). z ++ rest) c.text_is ∙ append_assoc (prefix n) (summed body) rest in
    ap body_front regrouped ∙ behind_prefix n (summed body ++ rest) c.small ∙ summed_again n body rest refl

-- ---- a record is read again

pub record_is_read : (place : ℕ) (x : Record) (text rest : List ℕ) → record_fits place x ≡ true → spell_record place x ≡ Some text → record_front place (text ++ rest) ≡ Ok (Some (plain_record x, length text))
unfolding spell_record record_front
record_is_read place x text rest fit e =
    let c = closed_some (entry.spell (place, x)) text e in
    let body = body_again c.0 text rest c.2 in
    let read = entry_reads place x c.0 fit c.1 in
    let here : eqb place place ≡ true = eq-eqb place place refl in
    let taken : length c.0 + around_body ≡ length text = sym (closed_len c.0 text c.2) in
    rw (body, read, here, taken) refl

abbrev found : List ℕ → Result (Option (List ℕ)) TrailFault
found body = Ok (Some body)

found_is : (x y : List ℕ) → found x ≡ found y → x ≡ y
found_is x y e = cc

-- two records of one spelling
pub one_record : (p q : ℕ) (x y : Record) (text : List ℕ) → record_fits p x ≡ true → record_fits q y ≡ true → spell_record p x ≡ Some text → spell_record q y ≡ Some text → (p ≡ q) × (plain_record x ≡ plain_record y)
unfolding spell_record
one_record p q x y text p_fits q_fits d e =
    let a = closed_some (entry.spell (p, x)) text d in
    let b = closed_some (entry.spell (q, y)) text e in
    let bodies : a.0 ≡ b.0 = found_is a.0 b.0 (sym (body_again a.0 text [] a.2) ∙ body_again b.0 text [] b.2) in
    let read = sym (entry_reads p x a.0 p_fits a.1) ∙ ap entry.read bodies ∙ entry_reads q y b.0 q_fits b.1 in
    let same = ok_is (p, plain_record x) (q, plain_record y) read in
    (ap (λ (z : ℕ × Record). z.0) same, ap (λ (z : ℕ × Record). z.1) same)

-- ---- a record that is cut off is awaited

cut_in_body : (n : ℕ) (body text : List ℕ) → IsClosed body text → 8 ≤ n → n < length text → body_front (take n text) ≡ Ok None
cut_in_body n body text c some lt =
    let w : List ℕ = take n text in
    let rest : List ℕ = drop 8 w in
    let head : take 8 w ≡ prefix (length body) = take-take 8 n text some ∙ ap (take 8) c.text_is ∙ take_at (prefix (length body)) (summed body) 8 (prefix_len (length body)) in
    let whole : w ≡ prefix (length body) ++ rest = sym (take-append-drop 8 w) ∙ ap (λ (z : List ℕ). z ++ rest) head in
    ap body_front whole ∙ behind_prefix (length body) rest c.small ∙ summed_short (length body) rest (omega (arith, closed_len body text c, length-drop 8 w, length-take n text))

cut_anywhere : (n : ℕ) (body text : List ℕ) → IsClosed body text → n < length text → body_front (take n text) ≡ Ok None
cut_anywhere n body text c lt =
    elim (cases_lt n 8) [
      | inl short ↦ short_prefix (take n text) (omega (arith, length-take n text))
      | inr some ↦ cut_in_body n body text c some lt
    ]

pub cut_is_awaited : (place other n : ℕ) (x : Record) (text : List ℕ) → spell_record place x ≡ Some text → n < length text → record_front other (take n text) ≡ Ok None
unfolding spell_record record_front
cut_is_awaited place other n x text e lt =
    let c = closed_some (entry.spell (place, x)) text e in
    rw (cut_anywhere n c.0 text c.2 lt) refl

-- ---- what is read was spelled so

behind_found : {A B : Type 0} (r : Result (Option A) TrailFault) (f : A → Result (Option B) TrailFault) (y : B) → and_then r f ≡ Ok (Some y) → (x : A) × (r ≡ Ok (Some x)) × (f x ≡ Ok (Some y))
behind_found (Err e) f y k = absurd cc
behind_found (Ok None) f y k = absurd cc
behind_found (Ok (Some x)) f y k = (x, refl, k)

bounded : (b : Bool) (r : Result (Option (List ℕ)) TrailFault) (y : List ℕ) → cond b (Err BadLength) r ≡ Ok (Some y) → (b ≡ false) × (r ≡ Ok (Some y))
bounded true r y e = absurd cc
bounded false r y e = (refl, e)

-- the length that was read in front of a body
record IsBodyAt (w body : List ℕ) : Type 0 where
  pub len : List ℕ
  pub head : IsSummed 4 w len
  pub number : from_be_bytes w32 len ≡ length body
  pub small : length body ≤ max_length
  pub tail : IsSummed (length body) (drop 8 w) body

body_found : (w body : List ℕ) → body_front w ≡ Ok (Some body) → IsBodyAt w body
unfolding body_front
body_found w body e =
    let b = behind_found (summed_at 4 w) (λ p. body_behind w (from_be_bytes w32 p)) body e in
    let n : ℕ = from_be_bytes w32 b.0 in
    let c = bounded (ltb max_length n) (summed_at n (drop 8 w)) body b.2 in
    let tail = summed_found n (drop 8 w) body c.1 in
    let number : n ≡ length body = omega (arith, ap length tail.text_is, length-take n (drop 8 w), tail.long) in
    record {
      len = b.0;
      head = summed_found 4 w b.0 b.1;
      number = number;
      small = omega (arith, ltb-false _ _ c.0, number);
      tail = subst (λ (m : ℕ). IsSummed m (drop 8 w) body) number tail;
    }

body_within : (w body : List ℕ) → IsBodyAt w body → length body + around_body ≤ length w
body_within w body b = omega (arith, b.head.long, b.tail.long, length-drop 8 w)

-- what closes the body stands in front
body_spelled : (w body : List ℕ) → IsBytes w → IsBodyAt w body → take (length body + around_body) w ≡ prefix (length body) ++ summed body
body_spelled w body fits b =
    let n : ℕ = length body in
    let rest : List ℕ = drop (n + 4) (drop 8 w) in
    let text : List ℕ = prefix n ++ summed body in
    let four : length b.len ≡ 4 = omega (arith, ap length b.head.text_is, length-take 4 w, b.head.long) in
    let len_fits : IsBytes b.len = subst IsBytes (sym b.head.text_is) (IsBytes-take 4 w fits) in
    let len_is : b.len ≡ to_be_bytes w32 n = sym (wide32.back b.len four len_fits) ∙ ap (to_be_bytes w32) b.number in
    let whole : w ≡ prefix n ++ (summed body ++ rest) = b.head.parts ∙ ap (λ (z : List ℕ). summed z ++ drop 8 w) len_is ∙ ap (λ (z : List ℕ). prefix n ++ z) b.tail.parts in
    let size : length text ≡ n + around_body = closed_len body text (record { small = b.small; text_is = refl }) in
    ap (take (n + around_body)) (whole ∙ sym (append_assoc (prefix n) (summed body) rest)) ∙ take_at text rest (n + around_body) size

abbrev found_record : Record → ℕ → Result (Option (Record × ℕ)) TrailFault
found_record x n = Ok (Some (x, n))

abbrev at_place : ℕ → Record → ℕ × Record
at_place place x = (place, x)

both_parts : (y : ℕ × Record) (place : ℕ) (x : Record) → y.0 ≡ place → y.1 ≡ x → y ≡ at_place place x
both_parts y place x p q = ap (λ (z : ℕ). at_place z y.1) p ∙ ap (at_place place) q

placed : (b : Bool) (x y : Record) (m n : ℕ) → cond b (found_record x m) (Err BadPlace) ≡ found_record y n → (b ≡ true) × (x ≡ y) × (m ≡ n)
placed true x y m n e =
    let pairs : ◌≡◌ {A = Option (Record × ℕ)} (Some (x, m)) (Some (y, n)) = cc in
    let parts = some_pair_parts x y m n pairs in
    (refl, parts.0, parts.1)
placed false x y m n e = absurd cc

entry_found : (place taken n : ℕ) (read : Result (ℕ × Record) WireFault) (x : Record) → entry_read place taken read ≡ found_record x n → (read ≡ Ok (at_place place x)) × (taken ≡ n)
entry_found place taken n (Err f) x e = absurd cc
entry_found place taken n (Ok y) x e =
    let p = placed (eqb y.0 place) y.1 x taken n e in
    (ap (λ (z : ℕ × Record). Ok z) (both_parts y place x (eqb-true _ _ p.0) p.1), p.2)

pub record_within : (place n : ℕ) (w : List ℕ) (x : Record) → record_front place w ≡ found_record x n → (0 < n) × (n ≤ length w)
unfolding record_front
record_within place n w x e =
    let b = behind_found (body_front w) (λ body. entry_read place (length body + around_body) (entry.read body)) (x, n) e in
    let i = body_found w b.0 b.1 in
    let f = entry_found place (length b.0 + around_body) n (entry.read b.0) x b.2 in
    let within = body_within w b.0 i in
    (omega (arith, f.1), omega (arith, f.1, within))

pub record_was_spelled : (place n : ℕ) (w : List ℕ) (x : Record) → IsBytes w → record_front place w ≡ found_record x n → IsSpelledBy place w x n
unfolding record_front spell_record
record_was_spelled place n w x fits e =
    let b = behind_found (body_front w) (λ body. entry_read place (length body + around_body) (entry.read body)) (x, n) e in
    let body : List ℕ = b.0 in
    let i = body_found w body b.1 in
    let f = entry_found place (length body + around_body) n (entry.read body) x b.2 in
    let body_fits : IsBytes body = subst IsBytes (sym i.tail.text_is) (IsBytes-take (length body) (drop 8 w) (IsBytes-drop 8 w fits)) in
    let t = entry_exact.takes body (place, x) body_fits f.0 in
    let closing : closed (Some body) ≡ Some (prefix (length body) ++ summed body) = rw (le-leb _ _ i.small) refl in
    let text : take n w ≡ prefix (length body) ++ summed body = ap (λ (m : ℕ). take m w) (sym f.1) ∙ body_spelled w body fits i in
    record {
      within = (record_within place n w x e).1;
      spelled = ap closed t.0 ∙ closing ∙ ap (λ (z : List ℕ). Some z) (sym text);
      plain = t.1;
    }

-- ---- what a reader found

pub record_behind : (place : ℕ) (w body : List ℕ) → body_front w ≡ Ok (Some body) → record_front place w ≡ entry_read place (length body + around_body) (entry.read body)
unfolding record_front
record_behind place w body e = ap (λ (f : Result (Option (List ℕ)) TrailFault). and_then f (λ b. entry_read place (length b + around_body) (entry.read b))) e

abbrev pub IsWithin : List ℕ → Result (Option (Record × ℕ)) LogFault → Type 0
IsWithin w result = IfOk result (λ found. IfSome found (λ x. (0 < x.1) × (x.1 ≤ length w)))

pub found_within : (place : ℕ) (w : List ℕ) (result : Result (Option (Record × ℕ)) LogFault) → Finds (λ x. x) result (record_front place w) → IsWithin w result
found_within place w (Ok None) finds = tt
found_within place w (Ok (Some x)) finds = record_within place x.1 w x.0 finds
found_within place w (Err e) finds = tt
