-- Records on their way into a file.
use Rattle.std.proofs.Common.{◌≡◌, ℕ, suc, ◌+◌, ◌-◌, ◌≤◌, ◌<◌, Bool, true, false, cond, eqb, ltb, List, [], ◌∷◌, ◌++◌, length, drop, take, Option, Some, None, refl, sym, ap, subst, ◌∙◌, append_assoc, append-nil, arith}
use Rattle.std.specs.Prelude.{option_and_then}
use Rattle.std.proofs.lemmas.Bool.{eqb-false, le-ltb}
use Rattle.std.specs.Io.KnownBytes.{Appends}
use Rattle.std.proofs.lemmas.List.{drop-append-le, drop-drop, length-append, length-drop, take-append-drop, take_all}
use Rattle.std.proofs.KnownBytes.{Appends-nil, Appends-trans}
use Rattle.ipc_terms.specs.declared.record.Record.{Record}
use Rattle.ipc_terms.specs.History.{History, record_at}
use Rattle.ipc_fields.specs.Field.{◌⊕◌}
use Rattle.ipc_log.specs.Trail.{spell_record}
use Rattle.ipc_log.specs.Writing.{Pending, Spells, Writes, spell_place, spell_places}
use Rattle.ipc_log.proofs.WritingLemmas.{split_put}

-- ---- records

-- at each place below the length a record stands
pub record_there : (h : History) (i : ℕ) (X : Type 0) → i < length h → record_at i h ≡ None → X
record_there [] i X less none = absurd (omega arith)
record_there (r ∷ before) i X less none = at (eqb (length before) i) refl none (record_there before i X) where
  at : (here : Bool) → eqb (length before) i ≡ here → cond here (Some r) (record_at i before) ≡ None → (i < length before → record_at i before ≡ None → X) → X
  at true is none' rest = absurd cc
  at false is none' rest = let other = eqb-false (length before) i is in rest (omega arith) none'

pub none_spelled : (h : History) (p : Pending) → Spells h p p
none_spelled h p = record { count = 0; bytes = []; spelled = omega arith; are = refl; left = sym (append-nil p.left) }

-- one record more is put behind the text, of which so many bytes are written
pub one_spelled : (h : History) (old mid new : Pending) (text text' : List ℕ) (written : ℕ) (r : Record) → Spells h old mid → mid.left ≡ drop written text → written ≤ length text
    → record_at mid.spelled h ≡ Some r → (Some text ⊕ spell_record mid.spelled r) ≡ Some text' → new.left ≡ drop written text' → new.spelled ≡ mid.spelled + 1 → Spells h old new
one_spelled h old mid new text text' written r so is within found put is' next =
    let s = split_put text text' (spell_record mid.spelled r) put in
    let grown : new.left ≡ mid.left ++ s.0 = is' ∙ ap (λ (xs : List ℕ). drop written xs) s.2 ∙ drop-append-le written text s.0 within ∙ ap (λ (xs : List ℕ). xs ++ s.0) (sym is) in
    let there : spell_place mid.spelled h ≡ Some s.0 = ap (λ (o : Option Record). option_and_then (spell_record mid.spelled) o) found ∙ s.1 in
    let here : spell_place (old.spelled + so.count) h ≡ Some s.0 = ap (λ (n : ℕ). spell_place n h) (sym so.spelled) ∙ there in
    record {
      count = suc so.count;
      bytes = so.bytes ++ s.0;
      spelled = omega (arith, next, so.spelled);
      are = ap (λ (o : Option (List ℕ)). o ⊕ spell_place (old.spelled + so.count) h) so.are ∙ ap (λ (o : Option (List ℕ)). Some so.bytes ⊕ o) here;
      left = grown ∙ ap (λ (xs : List ℕ). xs ++ s.0) so.left ∙ append_assoc old.left so.bytes s.0;
    }

-- ---- bytes

pub none_written : (p : Pending) (contents : Option (List ℕ)) → Writes p p contents contents
none_written p contents = record { bytes = []; parts = refl; written = Appends-nil contents; spelled = refl }

pub more_written : (a b c : Pending) (x y z : Option (List ℕ)) → Writes a b x y → Writes b c y z → Writes a c x z
more_written a b c x y z first second = record {
  bytes = first.bytes ++ second.bytes;
  parts = first.parts ∙ ap (λ (xs : List ℕ). first.bytes ++ xs) second.parts ∙ sym (append_assoc first.bytes second.bytes c.left);
  written = Appends-trans x y z first.bytes second.bytes first.written second.written;
  spelled = second.spelled ∙ first.spelled;
}

-- a record that wasn't forgotten is given as it stands
pub kept_record : (first place : ℕ) (h : History) (o : Option Record) → first ≤ place → o ≡ cond (ltb place first) None (record_at place h) → o ≡ record_at place h
kept_record first place h o le e = e ∙ ap (λ (b : Bool). cond b None (record_at place h)) (le-ltb place first le)

-- what is put behind a text leaves it as long at least
pub long_enough : (old new : List ℕ) (text : Option (List ℕ)) (n : ℕ) → n ≤ length old → (Some old ⊕ text) ≡ Some new → n ≤ length new
long_enough old new text n le put =
    let s = split_put old new text put in
    let long : length new ≡ length old + length s.0 = ap (λ (xs : List ℕ). length xs) s.2 ∙ length-append old s.0 in
    omega arith

-- so many bytes more of the text are written
pub some_written : (old new : Pending) (text : List ℕ) (written count : ℕ) (x y : Option (List ℕ)) → old.left ≡ drop written text → new.left ≡ drop (written + count) text → new.spelled ≡ old.spelled
    → Appends x y (take count (take (length text - written) (drop written text))) → Writes old new x y
some_written old new text written count x y was is same took = record {
  bytes = take count (drop written text);
  parts = was ∙ sym (take-append-drop count (drop written text)) ∙ ap (λ (xs : List ℕ). take count (drop written text) ++ xs) (drop-drop count written text ∙ sym is);
  written = subst (λ (xs : List ℕ). Appends x y (take count xs)) (take_all (length text - written) (drop written text) (omega (arith, length-drop written text))) took;
  spelled = same;
}
