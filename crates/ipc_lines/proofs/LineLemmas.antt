-- Lines by the pieces that are read of them.
use Rattle.std.proofs.Common.{◌≡◌, ◌≢◌, ◌∙◌, ℕ, zero, suc, ◌+◌, ◌-◌, ◌<◌, ◌≤◌, Bool, true, false, List, [], ◌∷◌, ◌++◌, length, take, get_or, get_or-take, length-take, append_assoc, append-nil, eqb-true, eq-eqb, Option, None, Some, refl, sym, ap, subst, inl, inr, arith}
use Rattle.std.specs.Prelude.{◌==◌, min, not, IfSome, OnSome, if◌then◌else◌}
use Rattle.std.specs.Io.{StartsWith}
use Rattle.std.specs.Io.BufRead.{DropsConsumable}
use Rattle.std.specs.Io.KnownBytes.{Consumes, IsAtEnd, Keeps}
use Rattle.std.proofs.BufReadLemmas.{Consumes_shown}
use Rattle.std.proofs.lemmas.Bool.Decides.{nat_tests}
use Rattle.std.proofs.lemmas.List.{nil_from_length, take_all, take_more, take-take}
use Rattle.std.proofs.lemmas.List.Elements.{All-append, All-from_get_or, All-head, All-nil, All-tail}
use Rattle.memchr.specs.Find.{NoneBefore, Nowhere, Passes, is_byte}
use Rattle.ipc_lines.specs.declared.lines.Piece.{Piece}
use Rattle.ipc_lines.specs.declared.lines.Piece.TheVariants.{Fed, Open, Last}
use Rattle.ipc_lines.specs.Reading.{EndsLine, EndsPiece, HasNoFeed, IsLast, IsNextLine, ReadsLine, ReadsPiece, Splits, line_of_run, lines_behind, lines_in}

-- ---- what is found

not_found : (bytes : List ℕ) (place i : ℕ) → Nowhere (Passes (is_byte 10) bytes) 0 place → i < place → get_or bytes i 0 ≢ 10
not_found bytes place i nowhere before = λ is. nowhere i (omega arith) before (eq-eqb _ _ is)

-- no line feed
unfed : (bytes : List ℕ) → Nowhere (Passes (is_byte 10) bytes) 0 (length bytes) → HasNoFeed bytes
unfed bytes nowhere = All-from_get_or (λ byte. byte ≢ 10) bytes 0 (λ i within. not_found bytes (length bytes) i nowhere within)

-- none before the first
unfed_before : (bytes : List ℕ) (place : ℕ) → NoneBefore (Passes (is_byte 10) bytes) 0 (length bytes) place → HasNoFeed (take place bytes)
unfed_before bytes place first =
    let long : length (take place bytes) ≡ place = omega (arith, length-take place bytes, first.high) in
    All-from_get_or (λ byte. byte ≢ 10) (take place bytes) 0
    (λ i within. subst (λ byte. byte ≢ 10) (sym (get_or-take place bytes i 0 (omega arith))) (not_found bytes place i first.before (omega arith)))

-- and the first behind them
fed_by : (bytes : List ℕ) (place : ℕ) → place < length bytes → Passes (is_byte 10) bytes place → take (place + 1) bytes ≡ take place bytes ++ 10 ∷ []
fed_by bytes place within is = take_more bytes place 0 within ∙ ap (λ byte. take place bytes ++ byte ∷ []) (eqb-true _ _ is)

-- ---- a piece

-- what is consumed is split off
splits : (P : List ℕ → List ℕ → Type 0) (before after : Option (List ℕ)) (read : List ℕ) → Consumes before after read
    → ((bytes rest : List ℕ) → before ≡ Some bytes → after ≡ Some rest → P read rest) → Splits P before after
splits P None after read consumed holds = tt
splits P (Some bytes) None read consumed holds = consumed
splits P (Some bytes) (Some rest) read consumed holds = (read, consumed, holds bytes rest refl refl)

at_end : (before after : Option (List ℕ)) (bytes rest : List ℕ) → OnSome before (IsAtEnd after) → before ≡ Some bytes → after ≡ Some rest → rest ≡ []
at_end before after bytes rest ends is_before is_after = rw (is_before, is_after) at ends

-- Of the bytes that a reader shows a first part is taken, as far as the longest line has room.
piece_read : (piece : Piece) (line longer added shown : List ℕ) (before between after : Option (List ℕ)) (buffered count : ℕ)
    → IfSome before (λ bytes. StartsWith bytes shown) → IfSome before (λ bytes. length shown ≡ 0 → bytes ≡ [])
    → Keeps before between → IfSome before (λ _. IfSome (Some buffered) (λ most. length shown ≤ most)) → DropsConsumable between after (Some buffered) count
    → count ≤ length shown → longer ≡ line ++ added → HasNoFeed added
    → ((rest : List ℕ) → (length shown ≡ 0 → rest ≡ []) → EndsPiece piece line added (take count shown) rest)
    → ReadsPiece piece line longer before after
piece_read piece line longer added shown before between after buffered count front at_last kept fits drops within grown free ends =
    let moved = Consumes_shown before between after (Some buffered) shown count within front at_last kept fits drops in
    splits (λ read rest. (added : List ℕ) × (longer ≡ line ++ added) × HasNoFeed added × EndsPiece piece line added read rest)
    before after (take count shown) moved.0
    (λ bytes rest is_before is_after. (added, grown, free, ends rest (λ none. at_end before after bytes rest (moved.1 none) is_before is_after)))

is_last : (shown line : List ℕ) (room : ℕ) → room ≡ 1048577 - length line → min (length shown) room ≡ 0
    → (rest : List ℕ) → (length shown ≡ 0 → rest ≡ []) → IsLast line rest
is_last [] line room is none rest ends = inl (ends refl)
is_last (byte ∷ bytes) line zero is none rest ends = inr (omega arith)
is_last (byte ∷ bytes) line (suc room) is none rest ends = absurd (omega arith)

-- `most` bytes are looked at of those that are shown, and so many are consumed
abbrev pub Shows : List ℕ → Option (List ℕ) → Option (List ℕ) → Option (List ℕ) → ℕ → ℕ → Type 0
Shows shown before between after buffered count =
    IfSome before (λ bytes. StartsWith bytes shown) × IfSome before (λ bytes. length shown ≡ 0 → bytes ≡ [])
    × Keeps before between × IfSome before (λ _. IfSome (Some buffered) (λ most. length shown ≤ most)) × DropsConsumable between after (Some buffered) count

pub fed_piece : (line longer shown : List ℕ) (before between after : Option (List ℕ)) (buffered most place : ℕ) → Shows shown before between after buffered (place + 1)
    → NoneBefore (Passes (is_byte 10) (take most shown)) 0 (length (take most shown)) place × Passes (is_byte 10) (take most shown) place
    → longer ≡ line ++ take place (take most shown) → ReadsPiece Fed line longer before after
fed_piece line longer shown before between after buffered most place (front, at_last, kept, fits, drops) (first, is) grown =
    let looked = take most shown in
    let long : length looked ≡ min most (length shown) = length-take most shown in
    piece_read Fed line longer (take place looked) shown before between after buffered (place + 1) front at_last kept fits drops
    (omega (arith, first.high)) grown (unfed_before looked place first)
    (λ rest ends. sym (take-take (place + 1) most shown (omega (arith, first.high))) ∙ fed_by looked place first.high is)

pub open_piece : (line longer shown : List ℕ) (before between after : Option (List ℕ)) (buffered most : ℕ)
    → Shows shown before between after buffered (length (take most shown)) → Nowhere (Passes (is_byte 10) (take most shown)) 0 (length (take most shown))
    → longer ≡ line ++ take (length (take most shown)) (take most shown) → ReadsPiece Open line longer before after
open_piece line longer shown before between after buffered most (front, at_last, kept, fits, drops) nowhere grown =
    let looked = take most shown in
    let long : length looked ≡ min most (length shown) = length-take most shown in
    piece_read Open line longer (take (length looked) looked) shown before between after buffered (length looked) front at_last kept fits drops
    (omega arith) grown (subst HasNoFeed (sym (take_all (length looked) looked (omega arith))) (unfed looked nowhere))
    (λ rest ends. sym (take-take (length looked) most shown (omega arith)))

pub last_piece : (line longer shown : List ℕ) (before between after : Option (List ℕ)) (buffered room : ℕ) → Shows shown before between after buffered 0
    → room ≡ 1048577 - length line → min (length shown) room ≡ 0 → longer ≡ line ++ [] → ReadsPiece Last line longer before after
last_piece line longer shown before between after buffered room (front, at_last, kept, fits, drops) is none grown =
    piece_read Last line longer [] shown before between after buffered 0 front at_last kept fits drops
    (omega arith) grown (All-nil (λ byte. byte ≢ 10)) (λ rest ends. (refl, refl, is_last shown line room is none rest ends))

pub none_shown : (shown : List ℕ) (most room : ℕ) → most ≡ min (length shown) room → length (take most shown) ≡ 0 → min (length shown) room ≡ 0
none_shown shown most room is none = omega (arith, length-take most shown)

-- ---- a line by its pieces

-- bytes that were read, of which none is a line feed
abbrev pub ReadsRun : List ℕ → Option (List ℕ) → Option (List ℕ) → Type 0
ReadsRun line before after = Splits (λ read rest. (read ≡ line) × HasNoFeed line) before after

pub no_run : (before : Option (List ℕ)) → ReadsRun [] before before
no_run None = tt
no_run (Some bytes) = ([], refl, (refl, All-nil (λ byte. byte ≢ 10)))

pub run_longer : (line longer : List ℕ) (before between after : Option (List ℕ)) → ReadsRun line before between → ReadsPiece Open line longer between after
    → ReadsRun longer before after
run_longer line longer None between after run piece = tt
run_longer line longer (Some bytes) None after run piece = absurd run
run_longer line longer (Some bytes) (Some middle) None run piece = piece
run_longer line longer (Some bytes) (Some middle) (Some rest) (read, split, (is, free)) (more, cut, (added, grown, clean, ends)) = (
  read ++ more,
  split ∙ ap (λ l. read ++ l) cut ∙ sym (append_assoc read more rest),
  (ap (λ l. l ++ more) is ∙ ap (λ l. line ++ l) ends ∙ sym grown, subst HasNoFeed (sym grown) (All-append (λ byte. byte ≢ 10) line added free clean)),
)

pub fed_line : (line longer : List ℕ) (before between after : Option (List ℕ)) → ReadsRun line before between → ReadsPiece Fed line longer between after
    → ReadsLine true longer before after
fed_line line longer None between after run piece = tt
fed_line line longer (Some bytes) None after run piece = absurd run
fed_line line longer (Some bytes) (Some middle) None run piece = piece
fed_line line longer (Some bytes) (Some middle) (Some rest) (read, split, (is, free)) (more, cut, (added, grown, clean, ends)) = (
  read ++ more,
  split ∙ ap (λ l. read ++ l) cut ∙ sym (append_assoc read more rest),
  (
    subst HasNoFeed (sym grown) (All-append (λ byte. byte ≢ 10) line added free clean),
    ap (λ l. l ++ more) is ∙ ap (λ l. line ++ l) ends ∙ sym (append_assoc line added (10 ∷ [])) ∙ ap (λ l. l ++ 10 ∷ []) (sym grown),
  ),
)

pub last_line : (line longer : List ℕ) (before between after : Option (List ℕ)) → ReadsRun line before between → ReadsPiece Last line longer between after
    → ReadsLine false longer before after
last_line line longer None between after run piece = tt
last_line line longer (Some bytes) None after run piece = absurd run
last_line line longer (Some bytes) (Some middle) None run piece = piece
last_line line longer (Some bytes) (Some middle) (Some rest) (read, split, (is, free)) (more, cut, (added, grown, clean, (empty, none, last))) =
    let same : line ≡ longer = sym (grown ∙ ap (λ l. line ++ l) none ∙ append-nil line) in (
      read ++ more,
      split ∙ ap (λ l. read ++ l) cut ∙ sym (append_assoc read more rest),
      (subst HasNoFeed same free, (ap (λ l. read ++ l) empty ∙ append-nil read ∙ is ∙ same, subst (λ l. IsLast l rest) same last)),
    )

-- ---- lines

-- a byte that is no line feed joins the run
behind_byte : (run bytes : List ℕ) (byte : ℕ) → byte ≢ 10 → lines_behind run (byte ∷ bytes) ≡ lines_behind (run ++ byte ∷ []) bytes
unfolding lines_behind
behind_byte run bytes byte other =
    let test : (byte == 10) ≡ false = grind (arith, nat_tests) in
    rw test refl

behind_run : (run more rest : List ℕ) → HasNoFeed more → lines_behind run (more ++ rest) ≡ lines_behind (run ++ more) rest
behind_run run [] rest free = ap (λ l. lines_behind l rest) (sym (append-nil run))
behind_run run (byte ∷ more) rest free =
    behind_byte run (more ++ rest) byte (All-head (λ b. b ≢ 10) byte more free)
    ∙ behind_run (run ++ byte ∷ []) more rest (All-tail (λ b. b ≢ 10) byte more free)
    ∙ ap (λ l. lines_behind l rest) (append_assoc run (byte ∷ []) more)

-- a line feed ends the line before it
lines_of_fed : (run rest : List ℕ) → HasNoFeed run → lines_in ((run ++ 10 ∷ []) ++ rest) ≡ run ∷ lines_in rest
unfolding lines_behind
lines_of_fed run rest free = ap lines_in (append_assoc run (10 ∷ []) rest) ∙ behind_run [] run (10 ∷ rest) free

-- and so does the end
lines_of_unfed : (run : List ℕ) → HasNoFeed run → lines_in (run ++ []) ≡ line_of_run run
unfolding lines_behind
lines_of_unfed run free = behind_run [] run [] free

next_of_fed : (line : List ℕ) (before after : Option (List ℕ)) → ReadsLine true line before after → IsNextLine (Some line) before after
next_of_fed line None after reads = tt
next_of_fed line (Some bytes) None reads = reads
next_of_fed line (Some bytes) (Some rest) (read, split, (free, is)) =
    ap lines_in (split ∙ ap (λ l. l ++ rest) is) ∙ lines_of_fed line rest free

lines_of_last : (line bytes read rest : List ℕ) → length line ≤ 1048576 → bytes ≡ read ++ rest → HasNoFeed line → EndsLine false line read rest → lines_in bytes ≡ line_of_run line
lines_of_last line bytes read rest short split free (is, inl none) =
    ap lines_in (split ∙ ap (λ l. l ++ rest) is ∙ ap (λ l. line ++ l) none) ∙ lines_of_unfed line free
lines_of_last line bytes read rest short split free (is, inr long) = absurd (omega arith)

next_of_last : (byte : ℕ) (line : List ℕ) (before after : Option (List ℕ)) → length (byte ∷ line) ≤ 1048576 → ReadsLine false (byte ∷ line) before after
    → IsNextLine (Some (byte ∷ line)) before (Some [])
unfolding lines_behind
next_of_last byte line None after short reads = tt
next_of_last byte line (Some bytes) None short reads = absurd reads
next_of_last byte line (Some bytes) (Some rest) short (read, split, (free, ends)) = lines_of_last (byte ∷ line) bytes read rest short split free ends

next_of_none : (before after last : Option (List ℕ)) → ReadsLine false [] before after → IsNextLine None before last
next_of_none None after last reads = tt
next_of_none (Some bytes) None last reads = absurd reads
next_of_none (Some bytes) (Some rest) last (read, split, (free, ends)) = lines_of_last [] bytes read rest (omega arith) split free ends

-- ---- what is read next, by what `read_line` tests

-- nothing, once the end was met
pub none_over : (is_over : Bool) (rest after : Option (List ℕ)) → is_over ≡ true → IsNextLine None (if is_over then Some [] else rest) after
unfolding lines_behind
none_over is_over rest after is = rw is refl

-- nothing, where no byte was read and no line feed
pub none_next : (was_over is_fed : Bool) (line : List ℕ) (before after last : Option (List ℕ)) → was_over ≡ false → is_fed ≡ false → length line ≡ 0
    → ReadsLine is_fed line before after → IsNextLine None (if was_over then Some [] else before) last
none_next was_over is_fed line before after last going unfed empty reads =
    rw going (next_of_none before after last (rw (unfed, nil_from_length line empty) at reads))

pub fed_next : (was_over is_fed : Bool) (line : List ℕ) (before after : Option (List ℕ)) → was_over ≡ false → is_fed ≡ true
    → ReadsLine is_fed line before after → IsNextLine (Some line) (if was_over then Some [] else before) (if not is_fed then Some [] else after)
fed_next was_over is_fed line before after going fed reads = rw (going, fed) (next_of_fed line before after (rw fed at reads))

pub unfed_next : (was_over is_fed : Bool) (line : List ℕ) (before after : Option (List ℕ)) → was_over ≡ false → is_fed ≡ false → length line ≢ 0
    → length line ≤ 1048576 → ReadsLine is_fed line before after
    → IsNextLine (Some line) (if was_over then Some [] else before) (if not is_fed then Some [] else after)
unfed_next was_over is_fed [] before after going unfed some short reads = absurd (some refl)
unfed_next was_over is_fed (byte ∷ line) before after going unfed some short reads =
    rw (going, unfed) (next_of_last byte line before after short (rw unfed at reads))
