-- Words at their places and options behind them: clap finds no fault in them, and a row for each.
use Rattle.std.proofs.Common.{◌≡◌, ◌∙◌, ℕ, ◌+◌, ◌&&◌, ◌||◌, Bool, true, false, not, List, [], ◌∷◌, ◌++◌, min, Some, None, refl, sym, ap, ap₂, subst, true≢false, Ok, Err, Result}
use Rattle.std.specs.Prelude.{fold}
use Rattle.std.specs.List.{list_all, list_any}
use Rattle.std.specs.Str.{bytes_eq}
use Rattle.std.proofs.lemmas.Bool.{and_parts, not-true, not_from_true, or_from, or_left, or_right}
use Rattle.std.proofs.lemmas.List.{append-nil, append_assoc}
use Rattle.std.proofs.lemmas.List.Folds.{list_any-append}
use Rattle.std.proofs.lemmas.Slice.Eq.{bytes_eq-Decides}
use Rattle.clap.specs.Faults.{check_fault, settle_fault, walk_fault}
use Rattle.clap.specs.Kinds.{check_kinds, or_else}
use Rattle.clap.specs.Lexer.{usize_max}
use Rattle.clap.specs.Simple.{built, filled_from, matches_of, new_rule}
use Rattle.clap.specs.Takes.{is_given}
use Rattle.clap.specs.Walk.{Held, Row, Rule, Text, arg_by_id, has_row, finished, nothing_held, pushed, settled, walk, walk_from, with_default}
use Rattle.clap.specs.declared.builder.action.ArgAction.TheVariants.{Set}
use Rattle.clap.proofs.FaultLemmas.{leaf_fault}
use Rattle.ipc_words.specs.Grammar.{Form, app_of_form, app_with, form_of_row}
use Rattle.ipc_terms.specs.declared.call.Call.{Call}
use Rattle.ipc_words.specs.Calls.{MeansBehind, meaning_of}
use Rattle.ipc_words.specs.Parses.{IsParsed}
use Rattle.ipc_words.specs.Placing.{AreFound, FindsArguments, begins_with_hyphen, given_rows, is_optional, is_placed, placed_rows, row_of_word}
use Rattle.ipc_words.specs.declared.commands.Argument.{Argument}
use Rattle.ipc_words.specs.declared.commands.Argument.TheVariants.{Required, Optional, Flag, Valued}
use Rattle.ipc_words.specs.declared.commands.Form.{Form as TableRow}
use Rattle.ipc_words.specs.declared.faults.WordFault.{WordFault}
use Rattle.ipc_words.specs.declared.faults.WordFault.TheVariants.{Usage, BadValue, NoMemory}
use Rattle.ipc_words.specs.Readings.{Reads}
use Rattle.ipc_words.proofs.DefaultLemmas.{defaults_pass, placed_given}
use Rattle.ipc_words.proofs.OptionLemmas.{options_behind}
use Rattle.ipc_words.proofs.ParseLemmas.{rules_of}
use Rattle.ipc_words.proofs.WordLemmas.{EndsWith, level, one_word_more, value_rule, waiting_passes, waiting_rows, walk_at, word_passes, word_taken}

-- ---- all words

-- clap holds a row of each of these names
abbrev HoldsRows : List Rule → Held → List Text → Type 0
HoldsRows all held names = (id : Text) → has_row id (settled all held).rows ≡ list_any (λ name. bytes_eq name id) names

one_row_more : (all : List Rule) (held : Held) (i : ℕ) (must : Bool) (name word : Text) (earlier : List Text)
    → arg_by_id all name ≡ Some (value_rule None (Some i) must name) → has_row name (settled all held).rows ≡ false → HoldsRows all held earlier
    → HoldsRows all (pushed name word (settled all held)) (earlier ++ name ∷ [])
one_row_more all held i must name word earlier found none holds id =
    ap (has_row id) (waiting_rows all held None (Some i) must name word found none)
    ∙ list_any-append (λ (row : Row). bytes_eq row.id id) (settled all held).rows (row_of_word name word ∷ [])
    ∙ ap (λ (b : Bool). b || (bytes_eq name id || false)) (holds id)
    ∙ sym (list_any-append (λ (other : Text). bytes_eq other id) earlier (name ∷ []))

-- the rule of an argument with one value
abbrev rule_of_value : Bool → Text → Rule
rule_of_value must name = record (new_rule name) { required = must; action = Some Set }

value_and_rest : (command : Text) (all : List Rule) (i : ℕ) (held : Held) (earlier : List Text) (must : Bool) (name word : Text) (words : List Text)
    (rules : List Rule) (rows : List Row) (are_placed : Bool) → settle_fault all false held ≡ [] → HoldsRows all held earlier
    → AreFound all i earlier (rule_of_value must name ∷ rules) → (not (begins_with_hyphen word) && are_placed) ≡ true
    → ((next : Held) → settle_fault all false next ≡ [] → HoldsRows all next (earlier ++ name ∷ []) → AreFound all (min (i + 1) usize_max) (earlier ++ name ∷ []) rules
    → are_placed ≡ true → EndsWith command all (walk_at (min (i + 1) usize_max) next) words ((settled all next).rows ++ rows))
    → EndsWith command all (walk_at i held) (word ∷ words) ((settled all held).rows ++ row_of_word name word ∷ rows)
unfolding AreFound
value_and_rest command all i held earlier must name word words rules rows are_placed passes holds found placed rest =
    let parts = and_parts (not (begins_with_hyphen word)) are_placed placed in
    let plain = not-true (begins_with_hyphen word) parts.0 in
    let none : has_row name (settled all held).rows ≡ false = holds name ∙ found.2 in
    let next = pushed name word (settled all held) in
    let end = rest next (waiting_passes all held None (Some i) must name word found.1 none) (one_row_more all held i must name word earlier found.1 none holds) found.3 parts.1 in
    let same : (settled all next).rows ++ rows ≡ (settled all held).rows ++ row_of_word name word ∷ rows =
    ap (λ (done : List Row). done ++ rows) (waiting_rows all held None (Some i) must name word found.1 none)
    ∙ append_assoc (settled all held).rows (row_of_word name word ∷ []) rows in
    subst (EndsWith command all (walk_at i held) (word ∷ words)) same
    (one_word_more command all (walk_at i held) (walk_at (min (i + 1) usize_max) next) word words ((settled all next).rows ++ rows)
    (word_taken all i held must name word plain found.0) (word_passes command all i held must name word plain found.0 passes) end)

all_words : (command : Text) (all : List Rule) (words : List Text) (arguments : List Argument) (i : ℕ) (held : Held) (earlier : List Text)
    → settle_fault all false held ≡ [] → HoldsRows all held earlier → AreFound all i earlier (rules_of arguments)
    → is_placed words arguments ≡ true
    → EndsWith command all (walk_at i held) words ((settled all held).rows ++ given_rows words arguments)
unfolding is_placed given_rows walk_fault
all_words command all [] arguments i held earlier passes holds found placed = (refl, passes, sym (append-nil _), refl)
all_words command all (word ∷ words) [] i held earlier passes holds found placed = absurd (true≢false (sym placed))
all_words command all (word ∷ words) (Required name ∷ arguments) i held earlier passes holds found placed =
    value_and_rest command all i held earlier true name.now word words (rules_of arguments) (given_rows words arguments) (is_placed words arguments)
    passes holds found placed (λ next. all_words command all words arguments (min (i + 1) usize_max) next (earlier ++ name.now ∷ []))
all_words command all (word ∷ words) (Optional name ∷ arguments) i held earlier passes holds found placed =
    value_and_rest command all i held earlier false name.now word words (rules_of arguments) (given_rows words arguments) (is_placed words arguments)
    passes holds found placed (λ next. all_words command all words arguments (min (i + 1) usize_max) next (earlier ++ name.now ∷ []))
all_words command all (word ∷ words) (Flag name ∷ arguments) i held earlier passes holds found placed =
    options_behind command all (Flag name ∷ arguments) i earlier held (word ∷ words) passes (λ id none. holds id ∙ none) found
    (and_parts (list_all is_optional arguments) _ placed).1
all_words command all (word ∷ words) (Valued name ∷ arguments) i held earlier passes holds found placed =
    options_behind command all (Valued name ∷ arguments) i earlier held (word ∷ words) passes (λ id none. holds id ∙ none) found
    (and_parts (list_all is_optional arguments) _ placed).1

-- ---- required arguments

-- an argument that must be given is not
abbrev lacks : List Row → List Rule → Bool
lacks rows rules = list_any (λ rule. rule.required && not (is_given rule.id rows)) rules

none_required : (rows : List Row) (arguments : List Argument) (i : ℕ) → list_all is_optional arguments ≡ true → lacks rows (filled_from i (rules_of arguments)) ≡ false
none_required rows [] i optional = refl
none_required rows (Required name ∷ arguments) i optional = absurd (true≢false (sym optional))
none_required rows (Optional name ∷ arguments) i optional = none_required rows arguments (min (i + 1) usize_max) optional
none_required rows (Flag name ∷ arguments) i optional = none_required rows arguments i optional
none_required rows (Valued name ∷ arguments) i optional = none_required rows arguments i optional

-- what has one of these rows is given
abbrev AreGiven : List Row → List Row → Type 0
AreGiven rows given = (id : Text) → has_row id given ≡ true → is_given id rows ≡ true

all_given : (rows : List Row) (words : List Text) (arguments : List Argument) (i : ℕ) → is_placed words arguments ≡ true
    → AreGiven rows (given_rows words arguments) → lacks rows (filled_from i (rules_of arguments)) ≡ false
unfolding is_placed given_rows
all_given rows [] arguments i placed given = none_required rows arguments i placed
all_given rows (word ∷ words) [] i placed given = refl
all_given rows (word ∷ words) (Required name ∷ arguments) i placed given =
    or_from _ _ (not_from_true _ (given name.now (or_left _ _ ((bytes_eq-Decides name.now name.now).1 refl))))
    (all_given rows words arguments (min (i + 1) usize_max) (and_parts (not (begins_with_hyphen word)) _ placed).1 (λ id has. given id (or_right _ _ has)))
all_given rows (word ∷ words) (Optional name ∷ arguments) i placed given =
    all_given rows words arguments (min (i + 1) usize_max) (and_parts (not (begins_with_hyphen word)) _ placed).1 (λ id has. given id (or_right _ _ has))
all_given rows (word ∷ words) (Flag name ∷ arguments) i placed given = none_required rows arguments i (and_parts (list_all is_optional arguments) _ placed).0
all_given rows (word ∷ words) (Valued name ∷ arguments) i placed given = none_required rows arguments i (and_parts (list_all is_optional arguments) _ placed).0

-- ---- the whole

parsed_placed : (command : Text) (words : List Text) (arguments : List Argument)
    → AreFound (filled_from 1 (rules_of arguments)) 1 [] (rules_of arguments) → is_placed words arguments ≡ true
    → IsParsed (app_with command (rules_of arguments)) words × (placed_rows words arguments ≡ matches_of (app_with command (rules_of arguments)) words)
parsed_placed command words arguments found placed =
    let all = filled_from 1 (rules_of arguments) in
    let end = (walk all [] nothing_held words).held in
    let ends : EndsWith command all (walk_from nothing_held) words (given_rows words arguments) =
    all_words command all words arguments 1 nothing_held [] refl (λ id. refl) found placed in
    let rows : finished all end ≡ placed_rows words arguments = ap (λ (rs : List Row). fold with_default rs all) ends.2 in
    let given = all_given (finished all end) words arguments 1 placed (λ id has. subst (λ (rs : List Row). is_given id rs ≡ true) (sym rows) (placed_given id words arguments has)) in
    let check : check_fault (level command all) (finished all end) false ≡ [] = ap (check_kinds false false) given in (
      leaf_fault (built (app_with command (rules_of arguments))) nothing_held words refl
          ∙ ap₂ or_else ends.0 (ap₂ or_else ends.1 (ap₂ or_else (defaults_pass arguments 1 (settled all end).rows) check)),
      sym rows,
    )

meant : (form : Form) (words : List Text) (rows : List Row) (result : Result Call WordFault) → IsParsed (app_of_form form) words
    → rows ≡ matches_of (app_of_form form) words → Reads (meaning_of form.op rows) result → MeansBehind form words result
meant form words rows (Ok call) parsed same reads = (parsed, subst (λ (rs : List Row). Reads (meaning_of form.op rs) (Ok call)) same reads)
meant form words rows (Err Usage) parsed same reads = absurd reads
meant form words rows (Err (BadValue argument)) parsed same reads = (parsed, subst (λ (rs : List Row). Reads (meaning_of form.op rs) (Err (BadValue argument))) same reads)
meant form words rows (Err NoMemory) parsed same reads = tt

-- what words mean, each at the argument of its place or among the options behind them
pub placed_meaning : (row : TableRow) (words : List Text) (result : Result Call WordFault) → FindsArguments (form_of_row row)
    → is_placed words row.arguments.now ≡ true → Reads (meaning_of row.op (placed_rows words row.arguments.now)) result
    → MeansBehind (form_of_row row) words result
placed_meaning row words result finds placed reads =
    let parsed = parsed_placed row.word.now words row.arguments.now finds placed in
    meant (form_of_row row) words (placed_rows words row.arguments.now) result parsed.0 parsed.1 reads
