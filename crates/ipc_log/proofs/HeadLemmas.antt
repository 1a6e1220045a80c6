-- A head is read again, and is awaited as long as it isn't whole.
use Rattle.std.proofs.Common.{◌≡◌, ℕ, ◌+◌, ◌<◌, ◌≤◌, true, false, ltb, List, ◌++◌, length, take, drop, Option, Some, None, Result, Ok, Err, refl, sym, ap, ◌∙◌, append_assoc, inl, inr, arith}
use Rattle.std.specs.Prelude.{IfOk, IfSome}
use Rattle.std.proofs.lemmas.Bool.{cases_lt, le-ltb, lt-ltb}
use Rattle.std.proofs.lemmas.List.{take_at, drop_at, take-take, take-append-le, length-append, length-take}
use Rattle.ipc_fields.specs.Field.{◌⊕◌, only}
use Rattle.ipc_fields.proofs.FieldLemmas.{some_is, join_some, only_exact}
use Rattle.ipc_log.specs.declared.fault.LogFault.{LogFault}
use Rattle.ipc_log.specs.declared.head.Head.{Head}
use Rattle.ipc_log.specs.Summed.{sum_of, summed, same_bytes, summed_at}
use Rattle.ipc_log.specs.Fields.{digest_field, retelling_field, head_field}
use Rattle.ipc_log.specs.Trail.{and_then, magic, head_len, summed_text, spell_head, head_read, head_front}
use Rattle.ipc_log.proofs.SumLemmas.{same_self, sum_len, summed_again, summed_short}
use Rattle.ipc_log.proofs.EntryLemmas.{head_exact}

-- the fields of a head that was spelled
pub record IsHead (h : Head) (text : List ℕ) : Type 0 where
  pub fields : List ℕ
  pub spelled : head_field.spell h ≡ Some fields
  pub size : length (magic ++ fields) ≡ head_len
  pub text_is : text ≡ summed (magic ++ fields)

summed_some : (o : Option (List ℕ)) (text : List ℕ) → summed_text o ≡ Some text → (x : List ℕ) × (o ≡ Some x) × (text ≡ summed x)
summed_some None text e = absurd cc
summed_some (Some x) text e = (x, refl, sym (some_is _ _ e))

fields_len : (h : Head) (fields : List ℕ) → head_field.spell h ≡ Some fields → length fields ≡ 84
unfolding head_field retelling_field digest_field
fields_len h fields e = ap length (sym (some_is _ _ e))

head_some : (h : Head) (text : List ℕ) → spell_head h ≡ Some text → IsHead h text
unfolding spell_head
head_some h text e =
    let s = summed_some (Some magic ⊕ head_field.spell h) text e in
    let j = join_some (Some magic) (head_field.spell h) s.0 s.1 in
    let parts : s.0 ≡ magic ++ j.1 = j.4 ∙ ap (λ (z : List ℕ). z ++ j.1) (sym (some_is _ _ j.2)) in
    record { fields = j.1; spelled = j.3; size = length-append magic j.1 ∙ ap (λ (n : ℕ). 8 + n) (fields_len h j.1 j.3); text_is = s.2 ∙ ap summed parts }

pub head_size : (h : Head) (text : List ℕ) → spell_head h ≡ Some text → length text ≡ head_len + 4
head_size h text e =
    let i = head_some h text e in
    rw i.text_is (omega (arith, length-append (magic ++ i.fields) (sum_of (magic ++ i.fields)), sum_len (magic ++ i.fields), i.size))

-- behind the first bytes
behind_magic : (w : List ℕ) → 8 ≤ length w → take 8 w ≡ magic → head_front w ≡ and_then (summed_at head_len w) (λ text. head_read ((only head_field).read (drop 8 text)))
unfolding head_front
behind_magic w le is =
    let long : ltb (length w) 8 ≡ false = le-ltb _ _ le in
    let same : same_bytes (take 8 w) magic ≡ true = ap (λ (z : List ℕ). same_bytes z magic) is ∙ same_self magic in
    rw (long, same) refl

begins_so : (h : Head) (text : List ℕ) → IsHead h text → take 8 text ≡ magic
begins_so h text i = ap (take 8) (i.text_is ∙ append_assoc magic i.fields (sum_of (magic ++ i.fields))) ∙ take_at magic (i.fields ++ sum_of (magic ++ i.fields)) 8 refl

pub head_is_read : (h : Head) (text rest : List ℕ) → head_field.is_plain h ≡ true → spell_head h ≡ Some text → head_front (text ++ rest) ≡ Ok (Some (h, length text))
head_is_read h text rest plain e =
    let i = head_some h text e in
    let whole : List ℕ = magic ++ i.fields in
    let size = head_size h text e in
    let first : take 8 (text ++ rest) ≡ magic = take-append-le 8 text rest (omega (arith, size)) ∙ begins_so h text i in
    let found : summed_at head_len (text ++ rest) ≡ Ok (Some whole) = ap (λ (z : List ℕ). summed_at head_len (z ++ rest)) i.text_is ∙ summed_again head_len whole rest i.size in
    let fields : drop 8 whole ≡ i.fields = drop_at magic i.fields 8 refl in
    let read : (only head_field).read i.fields ≡ Ok h = (only_exact head_field head_exact).again h i.fields plain i.spelled in
    behind_magic (text ++ rest) (omega (arith, size, length-append text rest)) first ∙ rw (found, fields, read, size) refl

cut_behind_magic : (h : Head) (n : ℕ) (text : List ℕ) → IsHead h text → length text ≡ head_len + 4 → 8 ≤ n → n < length text → head_front (take n text) ≡ Ok None
cut_behind_magic h n text i size some lt =
    let w : List ℕ = take n text in
    let first : take 8 w ≡ magic = take-take 8 n text some ∙ begins_so h text i in
    let awaited : summed_at head_len w ≡ Ok None = summed_short head_len w (omega (arith, length-take n text, size)) in
    behind_magic w (omega (arith, length-take n text, size)) first ∙ rw awaited refl

short_head : (w : List ℕ) → length w < 8 → head_front w ≡ Ok None
unfolding head_front
short_head w lt = rw (lt-ltb _ _ lt) refl

pub head_cut_is_awaited : (h : Head) (n : ℕ) (text : List ℕ) → spell_head h ≡ Some text → n < length text → head_front (take n text) ≡ Ok None
head_cut_is_awaited h n text e lt =
    elim (cases_lt n 8) [
      | inl short ↦ short_head (take n text) (omega (arith, length-take n text))
      | inr some ↦ cut_behind_magic h n text (head_some h text e) (head_size h text e) some lt
    ]

pub head_is_spelled : (h : Head) → (text : List ℕ) × (spell_head h ≡ Some text)
unfolding spell_head head_field retelling_field digest_field
head_is_spelled h = (_, refl)

pub found_within : (w : List ℕ) (result : Result (Option (Head × ℕ)) LogFault) → head_len + 4 ≤ length w → IfOk result (λ found. IfSome found (λ x. x.1 ≡ head_len + 4)) → IfOk result (λ found. IfSome found (λ x. x.1 ≤ length w))
found_within w (Ok None) le size = tt
found_within w (Ok (Some x)) le size = omega (arith, size, le)
found_within w (Err e) le size = tt
