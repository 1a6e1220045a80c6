-- Options behind the values: clap finds no fault in them, and a row for each.
use Rattle.std.proofs.Common.{◌≡◌, ◌∙◌, ℕ, ◌+◌, ◌&&◌, ◌||◌, Bool, cond, true, false, not, List, [], ◌∷◌, ◌++◌, min, take, drop, Option, Some, None, refl, sym, ap, ap₂, subst, true≢false, codes}
use Rattle.std.specs.Prelude.{find}
use Rattle.std.specs.List.{list_any}
use Rattle.std.specs.Option.{option_map_or}
use Rattle.std.specs.Str.{bytes_eq}
use Rattle.std.proofs.Math.Bool.{or-false}
use Rattle.std.proofs.lemmas.Bool.{and_parts, false_from_ne_true, not-true, or_from, or_left, or_parts, or_right}
use Rattle.std.proofs.lemmas.List.{append-nil, append_assoc, take-append-drop}
use Rattle.std.proofs.lemmas.List.Folds.{list_any-append}
use Rattle.std.proofs.lemmas.Option.{none-some, same_Some}
use Rattle.std.proofs.lemmas.Slice.Eq.{bytes_eq-Decides}
use Rattle.clap.specs.Faults.{settle_fault, walk_fault}
use Rattle.clap.specs.Lexer.{long_of, usize_max}
use Rattle.clap.specs.Simple.{filled}
use Rattle.clap.specs.Walk.{Held, Row, Rule, Text, arg_by_id, arg_by_long, has_row, pushed, reacted, settled}
use Rattle.ipc_words.specs.Grammar.{rule_of_argument}
use Rattle.ipc_words.specs.Placing.{AreFound, are_options, begins_with_hyphen, is_option_of, is_spelled, is_value, is_valued, name_of, option_rows, option_value, row_of_word}
use Rattle.ipc_words.specs.declared.commands.Argument.{Argument}
use Rattle.ipc_words.specs.declared.commands.Argument.TheVariants.{Required, Optional, Flag, Valued}
use Rattle.ipc_words.proofs.ParseLemmas.{rules_of}
use Rattle.ipc_words.proofs.WordLemmas.{EndsWith, flag_passes, flag_rows, flag_rule, flag_taken, one_word_more, option_passes, option_taken, value_passes, value_rule, value_taken, waiting_passes, waiting_rows, walk_at, walk_due}

-- ---- the option that a word spells

-- clap finds this option by the word and by its name, of which there is no row
abbrev IsKnownAs : List Rule → List Row → Text → Text → Rule → Type 0
IsKnownAs all rows word name rule =
    (word ≡ codes "--" ++ name)
    × (long_of word ≡ Some (name, None))
    × (bytes_eq word (codes "--") ≡ false)
    × (arg_by_long all name ≡ Some rule)
    × (arg_by_id all name ≡ Some rule)
    × (has_row name rows ≡ false)

abbrev IsKnown : List Rule → List Row → Text → Argument → Type 0
IsKnown all rows word argument =
    (is_value argument ≡ false) × IsKnownAs all rows word (name_of argument) (filled (rule_of_argument argument))

spelled_word : (word name : Text) → is_spelled word name ≡ true → word ≡ codes "--" ++ name
spelled_word word name spelled =
    let parts = and_parts (bytes_eq (take 2 word) (codes "--")) (bytes_eq (drop 2 word) name) spelled in
    let hyphens : take 2 word ≡ codes "--" = (bytes_eq-Decides (take 2 word) (codes "--")).0 parts.0 in
    let rest : drop 2 word ≡ name = (bytes_eq-Decides (drop 2 word) name).0 parts.1 in
    sym (take-append-drop 2 word) ∙ ap₂ (λ (front back : Text). front ++ back) hyphens rest

spelled_known : (all : List Rule) (rows : List Row) (word name : Text) (rule : Rule) → is_spelled word name ≡ true
    → arg_by_long all name ≡ Some rule → long_of (codes "--" ++ name) ≡ Some (name, None) → bytes_eq name [] ≡ false
    → arg_by_id all name ≡ Some rule → has_row name rows ≡ false
    → IsKnownAs all rows word name rule
spelled_known all rows word name rule spelled long parts nonempty found none =
    let is = spelled_word word name spelled in (
      is,
      subst (λ (w : Text). long_of w ≡ Some (name, None)) (sym is) parts,
      subst (λ (w : Text). bytes_eq w (codes "--") ≡ false) (sym is) nonempty,
      long,
      found,
      none,
    )

first_or_later : (all : List Rule) (rows : List Row) (word : Text) (first argument : Argument) (found : Option Argument) (b : Bool)
    → (b ≡ true → IsKnown all rows word first) → (found ≡ Some argument → IsKnown all rows word argument)
    → cond b (Some first) found ≡ Some argument → IsKnown all rows word argument
first_or_later all rows word first argument found true here later same = subst (IsKnown all rows word) (same_Some first argument same) (here refl)
first_or_later all rows word first argument found false here later same = later same

-- no row has a name that none of `earlier` is
abbrev pub IsRowless : List Row → List Text → Type 0
IsRowless rows earlier = (id : Text) → list_any (λ name. bytes_eq name id) earlier ≡ false → has_row id rows ≡ false

fewer : (rows : List Row) (earlier : List Text) (name : Text) → IsRowless rows earlier → IsRowless rows (earlier ++ name ∷ [])
fewer rows earlier name rowless id none =
    rowless id (or_parts _ _ (sym (list_any-append (λ (other : Text). bytes_eq other id) earlier (name ∷ [])) ∙ none)).0

pub option_known : (all : List Rule) (arguments : List Argument) (i : ℕ) (earlier : List Text) (rows : List Row) (word : Text) (argument : Argument)
    → AreFound all i earlier (rules_of arguments) → IsRowless rows earlier → find (is_option_of word) arguments ≡ Some argument
    → IsKnown all rows word argument
unfolding AreFound
option_known all [] i earlier rows word argument found rowless same = absurd (none-some argument same)
option_known all (Required name ∷ arguments) i earlier rows word argument found rowless same =
    option_known all arguments (min (i + 1) usize_max) (earlier ++ name.now ∷ []) rows word argument found.3 (fewer rows earlier name.now rowless) same
option_known all (Optional name ∷ arguments) i earlier rows word argument found rowless same =
    option_known all arguments (min (i + 1) usize_max) (earlier ++ name.now ∷ []) rows word argument found.3 (fewer rows earlier name.now rowless) same
option_known all (Flag name ∷ arguments) i earlier rows word argument found rowless same =
    first_or_later all rows word (Flag name) argument (find (is_option_of word) arguments) (is_spelled word name.now)
    (λ spelled. (refl, spelled_known all rows word name.now (flag_rule name.now) spelled found.0.0 found.0.1 found.0.2 found.1 (rowless name.now found.2)))
    (option_known all arguments i (earlier ++ name.now ∷ []) rows word argument found.3 (fewer rows earlier name.now rowless)) same
option_known all (Valued name ∷ arguments) i earlier rows word argument found rowless same =
    first_or_later all rows word (Valued name) argument (find (is_option_of word) arguments) (is_spelled word name.now)
    (λ spelled. (refl, spelled_known all rows word name.now (value_rule (Some name.now) None false name.now) spelled found.0.0 found.0.1 found.0.2 found.1 (rowless name.now found.2)))
    (option_known all arguments i (earlier ++ name.now ∷ []) rows word argument found.3 (fewer rows earlier name.now rowless)) same

-- each option that a word spells is known
abbrev pub AreKnown : List Rule → List Row → List Argument → Type 0
AreKnown all rows arguments = (word : Text) (argument : Argument) → find (is_option_of word) arguments ≡ Some argument → IsKnown all rows word argument

-- ---- options that are still to come

-- none of the options among these words is taken
abbrev AreFree : (Text → Bool) → List Argument → List Text → Type 0
AreFree is_taken arguments words =
    (word : Text) (argument : Argument) → find (is_option_of word) arguments ≡ Some argument → list_any (bytes_eq word) words ≡ true
    → is_taken (name_of argument) ≡ false

-- after an option that isn't among them
free_after : (all : List Rule) (rows0 rows : List Row) (arguments : List Argument) (word name : Text) (words : List Text) → AreKnown all rows0 arguments
    → word ≡ codes "--" ++ name → not (list_any (bytes_eq word) words) ≡ true → AreFree (λ id. has_row id rows) arguments (word ∷ words)
    → AreFree (λ id. has_row id rows || bytes_eq name id) arguments words
free_after all rows0 rows arguments word name words known is once free other argument same among =
    or_from _ _ (free other argument same (or_right (bytes_eq other word) _ among)) (false_from_ne_true _ (λ equal.
    let names : name ≡ name_of argument = (bytes_eq-Decides name (name_of argument)).0 equal in
    let words_are : other ≡ word = (known other argument same).1.0 ∙ ap (λ (n : Text). codes "--" ++ n) (sym names) ∙ sym is in
    let again : list_any (bytes_eq word) words ≡ true = subst (λ (w : Text). list_any (bytes_eq w) words ≡ true) words_are among in
    true≢false (sym again ∙ not-true _ once)))

-- once its row is there
free_on : (rows next : List Row) (arguments : List Argument) (name word : Text) (words : List Text)
    → next ≡ rows ++ row_of_word name word ∷ [] → AreFree (λ id. has_row id rows || bytes_eq name id) arguments words
    → AreFree (λ id. has_row id next) arguments words
free_on rows next arguments name word words more free other argument same among =
    ap (has_row (name_of argument)) more
    ∙ list_any-append (λ (row : Row). bytes_eq row.id (name_of argument)) rows (row_of_word name word ∷ [])
    ∙ ap (λ (b : Bool). has_row (name_of argument) rows || b) (or-false (bytes_eq name (name_of argument)))
    ∙ free other argument same among

-- ---- rows of options

option_row_more : (word name : Text) (words : List Text) → word ≡ codes "--" ++ name
    → option_rows (word ∷ words) ≡ row_of_word name (option_value words) ∷ option_rows words
unfolding option_rows
option_row_more word name words is = ap (λ (w : Text). option_rows (w ∷ words)) is

no_option_row : (word : Text) (words : List Text) → begins_with_hyphen word ≡ false → option_rows (word ∷ words) ≡ option_rows words
unfolding option_rows
no_option_row [] words plain = refl
no_option_row (byte ∷ rest) words plain = rw plain refl

-- what follows a flag is no value
flag_value : (all : List Rule) (rows0 : List Row) (arguments : List Argument) (words : List Text) → AreKnown all rows0 arguments
    → are_options false arguments words ≡ true → option_value words ≡ codes "true"
unfolding are_options
flag_value all rows0 arguments [] known fits = refl
flag_value all rows0 arguments (word ∷ words) known fits = go (find (is_option_of word) arguments) (known word) fits
  where
    go : (found : Option Argument) → ((argument : Argument) → found ≡ Some argument → IsKnown all rows0 word argument)
        → option_map_or (λ argument. not (list_any (bytes_eq word) words) && are_options (is_valued argument) arguments words) found false ≡ true
        → option_value (word ∷ words) ≡ codes "true"
    go None is fit = absurd (true≢false (sym fit))
    go (Some argument) is fit = ap (λ (w : Text). option_value (w ∷ words)) (is argument refl).1.0

-- ---- all options

-- From here on clap ends with a row for each option; where the value of one is due, that one's row comes first.
abbrev OptionsEnd : Text → List Rule → List Argument → ℕ → List Text → Option Text → Type 0
OptionsEnd command all arguments i words None =
    (held : Held) → settle_fault all false held ≡ [] → AreFree (λ id. has_row id (settled all held).rows) arguments words
    → are_options false arguments words ≡ true
    → EndsWith command all (walk_at i held) words ((settled all held).rows ++ option_rows words)
OptionsEnd command all arguments i words (Some name) =
    (held : Held) → arg_by_id all name ≡ Some (value_rule (Some name) None false name) → has_row name (settled all held).rows ≡ false
    → AreFree (λ id. has_row id (settled all held).rows || bytes_eq name id) arguments words
    → are_options true arguments words ≡ true
    → EndsWith command all (walk_due all i held name) words ((settled all held).rows ++ row_of_word name (option_value words) ∷ option_rows words)

value_and_rest : (command : Text) (all : List Rule) (arguments : List Argument) (i : ℕ) (name value : Text) (words : List Text)
    → OptionsEnd command all arguments i words None → OptionsEnd command all arguments i (value ∷ words) (Some name)
unfolding are_options
value_and_rest command all arguments i name value words rest held found none free fits =
    let parts = and_parts (not (begins_with_hyphen value)) (are_options false arguments words) fits in
    let plain = not-true (begins_with_hyphen value) parts.0 in
    let next = pushed name value (settled all held) in
    let more = waiting_rows all held (Some name) None false name value found none in
    let free_next = free_on (settled all held).rows (settled all next).rows arguments name value words more (λ word argument same among. free word argument same (or_right (bytes_eq word value) _ among)) in
    let end = rest next (waiting_passes all held (Some name) None false name value found none) free_next parts.1 in
    let value_is : option_value (value ∷ words) ≡ value = ap (λ (b : Bool). cond b (codes "true") value) plain in
    let rows : (settled all next).rows ++ option_rows words ≡ (settled all held).rows ++ row_of_word name (option_value (value ∷ words)) ∷ option_rows (value ∷ words) =
    ap (λ (done : List Row). done ++ option_rows words) more
    ∙ append_assoc (settled all held).rows (row_of_word name value ∷ []) (option_rows words)
    ∙ ap₂ (λ (v : Text) (others : List Row). (settled all held).rows ++ row_of_word name v ∷ others) (sym value_is) (sym (no_option_row value words plain)) in
    subst (EndsWith command all (walk_due all i held name) (value ∷ words)) rows
    (one_word_more command all (walk_due all i held name) (walk_at i next) value words ((settled all next).rows ++ option_rows words)
    (value_taken all i held name value plain found) (value_passes command all i held name value plain) end)

flag_and_rest : (command : Text) (all : List Rule) (rows0 : List Row) (arguments : List Argument) (i : ℕ) (held : Held) (word name : Text) (words : List Text)
    → AreKnown all rows0 arguments → IsKnownAs all rows0 word name (flag_rule name) → settle_fault all false held ≡ []
    → has_row name (settled all held).rows ≡ false → AreFree (λ id. has_row id (settled all held).rows || bytes_eq name id) arguments words
    → are_options false arguments words ≡ true → OptionsEnd command all arguments i words None
    → EndsWith command all (walk_at i held) (word ∷ words) ((settled all held).rows ++ option_rows (word ∷ words))
flag_and_rest command all rows0 arguments i held word name words known is passes none free fits rest =
    let next = reacted all (flag_rule name) [] held in
    let more = flag_rows all held name none in
    let end = rest next refl (free_on (settled all held).rows (settled all next).rows arguments name (codes "true") words more free) fits in
    let rows : (settled all next).rows ++ option_rows words ≡ (settled all held).rows ++ option_rows (word ∷ words) =
    ap (λ (done : List Row). done ++ option_rows words) more
    ∙ append_assoc (settled all held).rows (row_of_word name (codes "true") ∷ []) (option_rows words)
    ∙ ap (λ (v : Text). (settled all held).rows ++ row_of_word name v ∷ option_rows words) (sym (flag_value all rows0 arguments words known fits))
    ∙ ap (λ (others : List Row). (settled all held).rows ++ others) (sym (option_row_more word name words is.0)) in
    subst (EndsWith command all (walk_at i held) (word ∷ words)) rows
    (one_word_more command all (walk_at i held) (walk_at i next) word words ((settled all next).rows ++ option_rows words)
    (flag_taken all i held name word is.1 is.2 is.3) (flag_passes command all i held name word is.1 is.2 is.3 passes none) end)

valued_and_rest : (command : Text) (all : List Rule) (rows0 : List Row) (arguments : List Argument) (i : ℕ) (held : Held) (word name : Text) (words : List Text)
    → IsKnownAs all rows0 word name (value_rule (Some name) None false name) → settle_fault all false held ≡ []
    → has_row name (settled all held).rows ≡ false → AreFree (λ id. has_row id (settled all held).rows || bytes_eq name id) arguments words
    → are_options true arguments words ≡ true → OptionsEnd command all arguments i words (Some name)
    → EndsWith command all (walk_at i held) (word ∷ words) ((settled all held).rows ++ option_rows (word ∷ words))
valued_and_rest command all rows0 arguments i held word name words is passes none free fits rest =
    let row = row_of_word name (option_value words) ∷ option_rows words in
    let rows : (settled all held).rows ++ row ≡ (settled all held).rows ++ option_rows (word ∷ words) =
    ap (λ (others : List Row). (settled all held).rows ++ others) (sym (option_row_more word name words is.0)) in
    subst (EndsWith command all (walk_at i held) (word ∷ words)) rows
    (one_word_more command all (walk_at i held) (walk_due all i held name) word words ((settled all held).rows ++ row)
    (option_taken all i held name word is.1 is.2 is.3) (option_passes command all i held name word is.1 is.2 is.3 passes)
    (rest held is.4 none free fits))

option_and_rest : (command : Text) (all : List Rule) (rows0 : List Row) (arguments : List Argument) (i : ℕ) (held : Held) (word : Text) (words : List Text)
    → AreKnown all rows0 arguments → settle_fault all false held ≡ [] → AreFree (λ id. has_row id (settled all held).rows) arguments (word ∷ words)
    → (found : Option Argument) → find (is_option_of word) arguments ≡ found
    → option_map_or (λ argument. not (list_any (bytes_eq word) words) && are_options (is_valued argument) arguments words) found false ≡ true
    → ((due : Option Text) → OptionsEnd command all arguments i words due)
    → EndsWith command all (walk_at i held) (word ∷ words) ((settled all held).rows ++ option_rows (word ∷ words))
option_and_rest command all rows0 arguments i held word words known passes free None same fits rest = absurd (true≢false (sym fits))
option_and_rest command all rows0 arguments i held word words known passes free (Some (Required name)) same fits rest =
    absurd (true≢false (known word (Required name) same).0)
option_and_rest command all rows0 arguments i held word words known passes free (Some (Optional name)) same fits rest =
    absurd (true≢false (known word (Optional name) same).0)
option_and_rest command all rows0 arguments i held word words known passes free (Some (Flag name)) same fits rest =
    let is = (known word (Flag name) same).1 in
    let parts = and_parts (not (list_any (bytes_eq word) words)) (are_options false arguments words) fits in
    let none = free word (Flag name) same (or_left _ _ ((bytes_eq-Decides word word).1 refl)) in
    flag_and_rest command all rows0 arguments i held word name.now words known is passes none
    (free_after all rows0 (settled all held).rows arguments word name.now words known is.0 parts.0 free) parts.1 (rest None)
option_and_rest command all rows0 arguments i held word words known passes free (Some (Valued name)) same fits rest =
    let is = (known word (Valued name) same).1 in
    let parts = and_parts (not (list_any (bytes_eq word) words)) (are_options true arguments words) fits in
    let none = free word (Valued name) same (or_left _ _ ((bytes_eq-Decides word word).1 refl)) in
    valued_and_rest command all rows0 arguments i held word name.now words is passes none
    (free_after all rows0 (settled all held).rows arguments word name.now words known is.0 parts.0 free) parts.1 (rest (Some name.now))

pub all_options : (command : Text) (all : List Rule) (rows0 : List Row) (arguments : List Argument) (i : ℕ) → AreKnown all rows0 arguments
    → (words : List Text) (due : Option Text) → OptionsEnd command all arguments i words due
unfolding are_options option_rows walk_fault
all_options command all rows0 arguments i known [] None = λ held passes free fits. (refl, passes, sym (append-nil _), refl)
all_options command all rows0 arguments i known [] (Some name) = λ held found none free fits. absurd (true≢false (sym fits))
all_options command all rows0 arguments i known (word ∷ words) None = λ held passes free fits.
    option_and_rest command all rows0 arguments i held word words known passes free (find (is_option_of word) arguments) refl fits
    (all_options command all rows0 arguments i known words)
all_options command all rows0 arguments i known (word ∷ words) (Some name) =
    value_and_rest command all arguments i name word words (all_options command all rows0 arguments i known words None)

-- options behind values of which there are rows
pub options_behind : (command : Text) (all : List Rule) (arguments : List Argument) (i : ℕ) (earlier : List Text) (held : Held) (words : List Text)
    → settle_fault all false held ≡ [] → IsRowless (settled all held).rows earlier → AreFound all i earlier (rules_of arguments)
    → are_options false arguments words ≡ true
    → EndsWith command all (walk_at i held) words ((settled all held).rows ++ option_rows words)
options_behind command all arguments i earlier held words passes rowless found fits =
    let known : AreKnown all (settled all held).rows arguments = λ word argument. option_known all arguments i earlier (settled all held).rows word argument found rowless in
    all_options command all (settled all held).rows arguments i known words None held passes (λ word argument same among. (known word argument same).1.5) fits
