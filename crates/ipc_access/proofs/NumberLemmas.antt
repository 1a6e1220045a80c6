-- What std's `parse` and `from_utf8` say of a text of digits.
use Rattle.std.proofs.Common.{refl, ◌≡◌, ℕ, ◌<◌, ◌^◌, inl, inr, true, false, List, length, nat_le, ◌&&◌, arith, rules, tests, sym, ap, subst, ◌∙◌, Bor}
use Rattle.std.specs.Prelude.{Some, None, Result, Ok, Err, MatchResult, is_ok, IsUtf8, IsAscii}
use Rattle.std.specs.List.{list_all}
use Rattle.std.specs.Char.{is_ascii_digit}
use Rattle.std.specs.Result.{result_ok}
use Rattle.std.proofs.lemmas.Option.{same_Some, none-some}
use Rattle.std.specs.Str.Parse.{digits_value, ParsesUnsigned}
use Rattle.std.proofs.lemmas.Bool.{true≢false, and_parts, and_right, cond-false, cases_lt, ltb-true, lt-leb}
use Rattle.std.proofs.lemmas.List.{get_or_past}
use Rattle.std.proofs.lemmas.Str.{IsUtf8-from_ascii}
use Rattle.std.proofs.lemmas.Str.Parse.{IsNumeralModel, numerals_by_value, parse_digits, digit_at}
use Rattle.ipc_access.specs.UserLine.{is_number, number_up_to}

-- the test of digits is std's
pub digits : IsNumeralModel (λ ds. list_all is_ascii_digit ds ≡ true) (digits_value 10)
digits = numerals_by_value _ (record {
  empty = refl;
  parts = λ c cs h. search (rules, tests);
  more = λ c cs range h. search (rules, tests);
})

-- the parts of the test of a number
number_parts : (text : List ℕ) → is_number text ≡ true → (0 < length text) × (list_all is_ascii_digit text ≡ true)
number_parts text h =
    let outer = and_parts _ _ h in
    let inner = and_parts _ _ outer.0 in
    (ltb-true _ _ inner.0, inner.1)

-- digits are ASCII
digits-IsAscii : (text : List ℕ) → list_all is_ascii_digit text ≡ true → IsAscii text
digits-IsAscii text h i =
    elim (cases_lt i (length text)) [
      | inl within ↦ let range = digit_at text i (digits.to text h) within in omega arith
      | inr past ↦ let zero-there = get_or_past text i 0 past in omega (arith, zero-there)
    ]

pub number-IsUtf8 : (text : List ℕ) → is_number text ≡ true → IsUtf8 text
number-IsUtf8 text h = IsUtf8-from_ascii text (digits-IsAscii text (number_parts text h).1)

-- so `from_utf8` takes them
pub not_text : {S E : Type 0} (text : List ℕ) (r : Result S E) (view : S → Type 0) (more : E → Type 0) → is_number text ≡ true → MatchResult r view (λ e. ¬ (IsUtf8 text) × more e) → is_ok r ≡ true
not_text text (Ok s) view more number cases = refl
not_text text (Err e) view more number cases = absurd (cases.0 (number-IsUtf8 text number))

-- and gives the same bytes
pub same_text : {E : Type 0} (text : List ℕ) (r : Result (Bor (List ℕ)) E) (s : Bor (List ℕ)) (more : E → Type 0) → MatchResult r (λ x. (x.now ≡ text) × IsUtf8 text) more → result_ok r ≡ Some s → s.now ≡ text
same_text text (Ok x) s more cases e = sym (ap (λ b. b.now) (same_Some x s e)) ∙ cases.0
same_text text (Err d) s more cases e = absurd (none-some s e)

-- a number that a u64 does not hold is greater than any bound that it holds
pub refused : {E : Type 0} (most : ℕ) (text read : List ℕ) (r : Result ℕ E) → most < 2 ^ 64 → is_number text ≡ true → read ≡ text → ParsesUnsigned 64 10 read r → is_ok r ≡ false → number_up_to most text ≡ None
refused most text read (Ok n) fits number same parses err = absurd (true≢false err)
refused most text read (Err e) fits number same parses err =
    let parts = number_parts text number in
    let here = let P : List ℕ → Type 0 = λ t. ParsesUnsigned 64 10 t (Err e) in subst P same parses in
    let large : digits_value 10 text < 2 ^ 64 → ⊥ = λ small. parse_digits digits 64 text (Err e) here parts.1 (parts.0, small) in
    let value = digits_value 10 text in
    let above : most < value = elim (cases_lt value (2 ^ 64)) [ inl small ↦ absurd (large small) | inr big ↦ omega arith ] in
    cond-false (is_number text && nat_le value most) (Some value) None (and_right (is_number text) (nat_le value most) (lt-leb value most above))
