-- The words of a line by the places of its blanks.
use Rattle.std.proofs.Common.{◌≡◌, ℕ, zero, suc, ◌+◌, ◌-◌, ◌<◌, ◌≤◌, true, false, List, [], ◌∷◌, ◌++◌, length, get_or, drop, refl, ap, sym, ◌∙◌, length-drop, arith}
use Rattle.std.specs.Prelude.{⊤, slice_range}
use Rattle.std.specs.Str.{IsCharBoundary, IsUtf8}
use Rattle.std.proofs.lemmas.Bool.{cond_both}
use Rattle.std.proofs.lemmas.Bool.Decides.{nat_tests}
use Rattle.std.proofs.lemmas.List.{drop_more, drop_all, take_more, take_rest, get_or-drop}
use Rattle.std.proofs.lemmas.Str.{IsCharBoundary-after_ascii, IsCharBoundary-before_ascii}
use Rattle.memchr.specs.Find.{places_from, places}
use Rattle.ipc_lines.specs.Words.{is_blank, words_behind, words_in, words_of_run}

-- the words of a line from `start` on, cut at these places
abbrev pub words_cut : List ℕ → ℕ → List ℕ → List (List ℕ)
words_cut line start [] = words_of_run (drop start line)
words_cut line start (end ∷ ends) = words_of_run (slice_range line start end) ++ words_cut line (end + 1) ends

-- these places of the line, in order and none before `start`, are blanks
abbrev pub AreBlanks : List ℕ → ℕ → List ℕ → Type 0
AreBlanks line start [] = ⊤
AreBlanks line start (end ∷ ends) =
    (start ≤ end) × (end < length line) × (is_blank (get_or line end 0) ≡ true) × AreBlanks line (end + 1) ends

-- the words of what is left at `end`, where the run before it begins at `start`
abbrev words_from : List ℕ → ℕ → ℕ → List (List ℕ)
words_from line start end = words_behind (slice_range line start end) (drop end line)

from_blank : (line : List ℕ) (start end : ℕ) → end < length line → is_blank (get_or line end 0) ≡ true
    → words_from line start end ≡ words_of_run (slice_range line start end) ++ words_from line (end + 1) (end + 1)
unfolding words_behind
from_blank line start end within blank =
    let none : (end + 1) - (end + 1) ≡ 0 = omega arith in
    rw (drop_more line end 0 within, blank, none) refl

run_more : (line : List ℕ) (start end : ℕ) → start ≤ end → end < length line
    → slice_range line start (end + 1) ≡ slice_range line start end ++ get_or line end 0 ∷ []
run_more line start end ordered within =
    let more : (end + 1) - start ≡ (end - start) + 1 = omega arith in
    let place : start + (end - start) ≡ end = omega arith in
    let left : end - start < length (drop start line) = omega (arith, length-drop start line) in
    rw (more, take_more (drop start line) (end - start) 0 left, get_or-drop start line (end - start) 0, place) refl

from_other : (line : List ℕ) (start end : ℕ) → start ≤ end → end < length line → is_blank (get_or line end 0) ≡ false
    → words_from line start end ≡ words_from line start (end + 1)
unfolding words_behind
from_other line start end ordered within other =
    rw (run_more line start end ordered within, drop_more line end 0 within, other) refl

from_end : (line : List ℕ) (start end : ℕ) → end ≡ length line → words_from line start end ≡ words_of_run (drop start line)
unfolding words_behind
from_end line start end last = rw (drop_all end line (omega arith), last, take_rest line start) refl

cuts_behind : (line : List ℕ) (start end left : ℕ) → start ≤ end → end + left ≡ length line
    → words_cut line start (places_from is_blank line end left) ≡ words_from line start end
unfolding places_from
cuts_behind line start end zero ordered whole = sym (from_end line start end (omega arith))
cuts_behind line start end (suc left) ordered whole =
    let later = places_from is_blank line (end + 1) left in
    cond_both (is_blank (get_or line end 0)) (end ∷ later) later (λ ends. words_cut line start ends ≡ words_from line start end)
    (λ blank.
    ap (λ words. words_of_run (slice_range line start end) ++ words) (cuts_behind line (end + 1) (end + 1) left (omega arith) (omega arith))
    ∙ sym (from_blank line start end (omega arith) blank))
    (λ other. cuts_behind line start (end + 1) left (omega arith) (omega arith) ∙ sym (from_other line start end ordered (omega arith) other))

blanks_behind : (line : List ℕ) (start end left : ℕ) → start ≤ end → end + left ≡ length line
    → AreBlanks line start (places_from is_blank line end left)
unfolding places_from
blanks_behind line start end zero ordered whole = tt
blanks_behind line start end (suc left) ordered whole =
    let later = places_from is_blank line (end + 1) left in
    cond_both (is_blank (get_or line end 0)) (end ∷ later) later (AreBlanks line start)
    (λ blank. (ordered, omega arith, blank, blanks_behind line (end + 1) (end + 1) left (omega arith) (omega arith)))
    (λ other. blanks_behind line start (end + 1) left (omega arith) (omega arith))

-- each blank of the line is one of its places
pub places_are_blanks : (line : List ℕ) → AreBlanks line 0 (places is_blank line)
places_are_blanks line = blanks_behind line 0 0 (length line - 0) (omega arith) (omega arith)

-- cut at all of its blanks, the line falls into its words
pub words_are_cut : (line : List ℕ) → words_cut line 0 (places is_blank line) ≡ words_in line
words_are_cut line = cuts_behind line 0 0 (length line - 0) (omega arith) (omega arith)

blank_is_ascii : (byte : ℕ) → is_blank byte ≡ true → byte < 128
blank_is_ascii byte blank = grind (arith, nat_tests)

-- the line may be cut before a blank and behind it
pub cut_before_blank : (line : List ℕ) (end : ℕ) → end < length line → is_blank (get_or line end 0) ≡ true
    → IsCharBoundary line end
cut_before_blank line end within blank =
    IsCharBoundary-before_ascii line end within (blank_is_ascii (get_or line end 0) blank)

pub cut_behind_blank : (line : List ℕ) (end : ℕ) → IsUtf8 line → end < length line → is_blank (get_or line end 0) ≡ true
    → IsCharBoundary line (end + 1)
cut_behind_blank line end text within blank =
    IsCharBoundary-after_ascii line end text within (blank_is_ascii (get_or line end 0) blank)
