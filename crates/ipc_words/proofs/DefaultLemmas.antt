-- Defaults of flags that aren't given, and what stands at an argument beside them.
use Rattle.std.proofs.Common.{◌≡◌, ◌∙◌, ℕ, ◌+◌, ◌&&◌, ◌||◌, Bool, cond, true, false, List, [], ◌∷◌, min, take, drop, Option, Some, None, refl, sym, ap, ap₂, subst, true≢false, codes}
use Rattle.std.specs.Prelude.{find, fold, is_some, option_and_then, slice_get}
use Rattle.std.specs.List.{list_all, list_any}
use Rattle.std.specs.Option.{option_map_or, option_or}
use Rattle.std.specs.Str.{bytes_eq}
use Rattle.std.proofs.lemmas.Bool.{and_parts}
use Rattle.std.proofs.lemmas.List.Folds.{find-append}
use Rattle.std.proofs.lemmas.Slice.Eq.{bytes_eq-Decides}
use Rattle.clap.specs.Faults.{default_fault, defaults_fault, given_default_fault}
use Rattle.clap.specs.Facts.{explicit_source}
use Rattle.clap.specs.Kinds.{Kinds, or_else}
use Rattle.clap.specs.Lexer.{usize_max}
use Rattle.clap.specs.Simple.{filled_from}
use Rattle.clap.specs.Takes.{is_given}
use Rattle.clap.specs.Walk.{Row, Rule, Text, first_of, has_row, is_empty, more_values, with_default}
use Rattle.clap.specs.declared.parser.matches.ValueSource.TheVariants.{DefaultValue}
use Rattle.ipc_words.specs.Placing.{given_rows, is_flag_of, is_value, name_of, option_rows, option_value, placed_rows, row_of_word}
use Rattle.ipc_words.specs.declared.commands.Argument.{Argument}
use Rattle.ipc_words.specs.declared.commands.Argument.TheVariants.{Required, Optional, Flag, Valued}
use Rattle.ipc_words.proofs.ParseLemmas.{rules_of}
use Rattle.ipc_words.proofs.WordLemmas.{flag_rule, fresh_row, value_rule}

-- ---- no default is at fault

default_passes : (rows : List Row) (rule : Rule) → given_default_fault rule rule.defaults ≡ [] → default_fault rows rule ≡ []
default_passes rows rule passes = go (has_row rule.id rows || is_empty rule.defaults) (given_default_fault rule rule.defaults) passes
  where
    go : (b : Bool) (kinds : Kinds) → kinds ≡ [] → cond b [] kinds ≡ []
    go true kinds none = refl
    go false kinds none = none

pub defaults_pass : (arguments : List Argument) (i : ℕ) (rows : List Row) → defaults_fault rows (filled_from i (rules_of arguments)) ≡ []
unfolding defaults_fault
defaults_pass [] i rows = refl
defaults_pass (Required name ∷ arguments) i rows =
    let rule = value_rule None (Some i) true name.now in
    ap₂ or_else (default_passes rows rule refl) (defaults_pass arguments (min (i + 1) usize_max) (with_default rows rule))
defaults_pass (Optional name ∷ arguments) i rows =
    let rule = value_rule None (Some i) false name.now in
    ap₂ or_else (default_passes rows rule refl) (defaults_pass arguments (min (i + 1) usize_max) (with_default rows rule))
defaults_pass (Flag name ∷ arguments) i rows =
    let rule = flag_rule name.now in
    ap₂ or_else (default_passes rows rule refl) (defaults_pass arguments i (with_default rows rule))
defaults_pass (Valued name ∷ arguments) i rows =
    let rule = value_rule (Some name.now) None false name.now in
    ap₂ or_else (default_passes rows rule refl) (defaults_pass arguments i (with_default rows rule))

-- ---- the rows with the defaults

-- no value has a default
default_kept : (rows : List Row) (long : Option Text) (place : Option ℕ) (must : Bool) (name : Text) → with_default rows (value_rule long place must name) ≡ rows
default_kept rows long place must name = go (has_row name rows)
  where
    go : (b : Bool) → cond b rows rows ≡ rows
    go true = refl
    go false = refl

abbrev named : Text → Row → Bool
named id row = bytes_eq row.id id

-- clap's row of a flag that isn't given
abbrev default_row : Text → Row
default_row name = record (row_of_word name (codes "false")) { source = Some DefaultValue }

or_nothing : {X : Type 0} (found : Option X) → found ≡ option_or found None
or_nothing None = refl
or_nothing (Some x) = refl

found_first : (id : Text) (rows : List Row) (other : Option Row) → has_row id rows ≡ true → find (named id) rows ≡ option_or (find (named id) rows) other
found_first id [] other has = absurd (true≢false (sym has))
found_first id (row ∷ rows) other has = go (bytes_eq row.id id) (found_first id rows other) has
  where
    go : (b : Bool) → (has_row id rows ≡ true → find (named id) rows ≡ option_or (find (named id) rows) other) → (b || has_row id rows) ≡ true
        → cond b (Some row) (find (named id) rows) ≡ option_or (cond b (Some row) (find (named id) rows)) other
    go true later h = refl
    go false later h = later h

default_found : (id name : Text) (rows : List Row)
    → find (named id) (with_default rows (flag_rule name)) ≡ option_or (find (named id) rows) (cond (bytes_eq name id) (Some (default_row name)) None)
default_found id name rows = go (has_row name rows) (bytes_eq name id) refl refl
  where
    none_else : (e : Bool) → (e ≡ true → has_row id rows ≡ true) → find (named id) rows ≡ option_or (find (named id) rows) (cond e (Some (default_row name)) None)
    none_else true has = found_first id rows (Some (default_row name)) (has refl)
    none_else false has = or_nothing (find (named id) rows)

    go : (b e : Bool) → has_row name rows ≡ b → bytes_eq name id ≡ e
        → find (named id) (with_default rows (flag_rule name)) ≡ option_or (find (named id) rows) (cond e (Some (default_row name)) None)
    go true e has same = rw has (none_else e (λ equal. subst (λ (n : Text). has_row n rows ≡ true) ((bytes_eq-Decides name id).0 (same ∙ equal)) has))
    go false e has same =
        rw has (ap (find (named id)) (fresh_row name (more_values DefaultValue (codes "false" ∷ [])) (default_row name ∷ []) rows has)
        ∙ find-append (named id) rows (default_row name ∷ [])
        ∙ ap (λ (b : Bool). option_or (find (named id) rows) (cond b (Some (default_row name)) None)) same)

one_of_two : (found : Option Row) (first second : Row) (b more : Bool) → (b ≡ true → first ≡ second)
    → option_or (option_or found (cond b (Some first) None)) (cond more (Some second) None) ≡ option_or found (cond (b || more) (Some second) None)
one_of_two (Some row) first second b more same = refl
one_of_two None first second true more same = ap (λ (row : Row). Some row) (same refl)
one_of_two None first second false more same = refl

-- what is found under a name: a row that was there, or a flag's default
pub defaults_found : (id : Text) (arguments : List Argument) (i : ℕ) (rows : List Row)
    → find (named id) (fold with_default rows (filled_from i (rules_of arguments)))
    ≡ option_or (find (named id) rows) (cond (list_any (is_flag_of id) arguments) (Some (default_row id)) None)
defaults_found id [] i rows = or_nothing (find (named id) rows)
defaults_found id (Required name ∷ arguments) i rows =
    ap (λ (rs : List Row). find (named id) (fold with_default rs (filled_from (min (i + 1) usize_max) (rules_of arguments)))) (default_kept rows None (Some i) true name.now)
    ∙ defaults_found id arguments (min (i + 1) usize_max) rows
defaults_found id (Optional name ∷ arguments) i rows =
    ap (λ (rs : List Row). find (named id) (fold with_default rs (filled_from (min (i + 1) usize_max) (rules_of arguments)))) (default_kept rows None (Some i) false name.now)
    ∙ defaults_found id arguments (min (i + 1) usize_max) rows
defaults_found id (Valued name ∷ arguments) i rows =
    ap (λ (rs : List Row). find (named id) (fold with_default rs (filled_from i (rules_of arguments)))) (default_kept rows (Some name.now) None false name.now)
    ∙ defaults_found id arguments i rows
defaults_found id (Flag name ∷ arguments) i rows =
    let others = list_any (is_flag_of id) arguments in
    defaults_found id arguments i (with_default rows (flag_rule name.now))
    ∙ ap (λ (found : Option Row). option_or found (cond others (Some (default_row id)) None)) (default_found id name.now rows)
    ∙ one_of_two (find (named id) rows) (default_row name.now) (default_row id) (bytes_eq name.now id) others
    (λ equal. ap default_row ((bytes_eq-Decides name.now id).0 equal))

-- ---- rows that are given

-- a word was given, and stands in the row
abbrev is_full : Row → Bool
is_full row = explicit_source row.source && is_some (slice_get row.values 0)

options_full : (words : List Text) → list_all is_full (option_rows words) ≡ true
unfolding option_rows
options_full [] = refl
options_full (word ∷ words) = go (bytes_eq (take 2 word) (codes "--")) (options_full words)
  where
    go : (b : Bool) → list_all is_full (option_rows words) ≡ true
        → list_all is_full (cond b (row_of_word (drop 2 word) (option_value words) ∷ option_rows words) (option_rows words)) ≡ true
    go true rest = rest
    go false rest = rest

given_full : (words : List Text) (arguments : List Argument) → list_all is_full (given_rows words arguments) ≡ true
unfolding given_rows
given_full [] arguments = refl
given_full (word ∷ words) [] = refl
given_full (word ∷ words) (argument ∷ arguments) = go (is_value argument) (given_full words arguments) (options_full (word ∷ words))
  where
    go : (b : Bool) → list_all is_full (given_rows words arguments) ≡ true → list_all is_full (option_rows (word ∷ words)) ≡ true
        → list_all is_full (cond b (row_of_word (name_of argument) word ∷ given_rows words arguments) (option_rows (word ∷ words))) ≡ true
    go true rest options = rest
    go false rest options = options

find_full : (id : Text) (rows : List Row) → list_all is_full rows ≡ true → (has_row id rows ≡ true → is_given id rows ≡ true)
    × (first_of id rows ≡ None → find (named id) rows ≡ None)
find_full id [] full = (λ has. absurd (true≢false (sym has)), λ none. refl)
find_full id (row ∷ rows) full =
    let parts = and_parts (is_full row) (list_all is_full rows) full in
    let ways = and_parts (explicit_source row.source) (is_some (slice_get row.values 0)) parts.0 in
    go (bytes_eq row.id id) ways.0 ways.1 (find_full id rows parts.1)
  where
    no_value : (value : Option Text) → is_some value ≡ true → value ≡ None → Some row ≡ None
    no_value None has none = absurd (true≢false (sym has))
    no_value (Some word) has none = absurd (true≢false (ap is_some none))

    go : (b : Bool) → explicit_source row.source ≡ true → is_some (slice_get row.values 0) ≡ true
        → (has_row id rows ≡ true → is_given id rows ≡ true) × (first_of id rows ≡ None → find (named id) rows ≡ None)
        → ((b || has_row id rows) ≡ true → option_map_or (λ r. explicit_source r.source) (cond b (Some row) (find (named id) rows)) false ≡ true)
        × (option_and_then (λ (r : Row). slice_get r.values 0) (cond b (Some row) (find (named id) rows)) ≡ None → cond b (Some row) (find (named id) rows) ≡ None)
    go true explicit value rest = (λ has. explicit, λ none. no_value (slice_get row.values 0) value none)
    go false explicit value rest = rest

given_kept : (found other : Option Row) → option_map_or (λ r. explicit_source r.source) found false ≡ true
    → option_map_or (λ r. explicit_source r.source) (option_or found other) false ≡ true
given_kept None other given = absurd (true≢false (sym given))
given_kept (Some row) other given = given

-- what has a row was given, also beside the defaults
pub placed_given : (id : Text) (words : List Text) (arguments : List Argument) → has_row id (given_rows words arguments) ≡ true
    → is_given id (placed_rows words arguments) ≡ true
placed_given id words arguments has =
    let found = defaults_found id arguments 1 (given_rows words arguments) in
    let given = (find_full id (given_rows words arguments) (given_full words arguments)).0 has in
    ap (λ (row : Option Row). option_map_or (λ r. explicit_source r.source) row false) found ∙ given_kept _ _ given

-- the word at an argument, and `false` at a flag that isn't given
pub placed_first : (id : Text) (words : List Text) (arguments : List Argument)
    → first_of id (placed_rows words arguments)
    ≡ option_or (first_of id (given_rows words arguments)) (cond (list_any (is_flag_of id) arguments) (Some (codes "false")) None)
placed_first id words arguments =
    let found = find (named id) (given_rows words arguments) in
    let none = (find_full id (given_rows words arguments) (given_full words arguments)).1 in
    ap (option_and_then (λ (r : Row). slice_get r.values 0)) (defaults_found id arguments 1 (given_rows words arguments))
    ∙ go found (list_any (is_flag_of id) arguments) none
  where
    value_or : (row : Row) (value : Option Text) (other : Option Text) → (value ≡ None → Some row ≡ None) → value ≡ option_or value other
    value_or row None other full = absurd (true≢false (ap is_some (full refl)))
    value_or row (Some word) other full = refl

    go : (found : Option Row) (b : Bool) → (option_and_then (λ (r : Row). slice_get r.values 0) found ≡ None → found ≡ None)
        → option_and_then (λ (r : Row). slice_get r.values 0) (option_or found (cond b (Some (default_row id)) None))
        ≡ option_or (option_and_then (λ (r : Row). slice_get r.values 0) found) (cond b (Some (codes "false")) None)
    go None true full = refl
    go None false full = refl
    go (Some row) b full = value_or row (slice_get row.values 0) (cond b (Some (codes "false")) None) full

-- the word given there
pub word_given : (id : Text) (words : List Text) (arguments : List Argument) (word : Text) → Some word ≡ first_of id (given_rows words arguments)
    → Some word ≡ first_of id (placed_rows words arguments)
word_given id words arguments word given =
    ap (λ (found : Option Text). option_or found (cond (list_any (is_flag_of id) arguments) (Some (codes "false")) None)) given
    ∙ sym (placed_first id words arguments)

-- none, by whether a flag has the name
pub none_given : (id : Text) (words : List Text) (arguments : List Argument) (b : Bool) → None ≡ first_of id (given_rows words arguments)
    → list_any (is_flag_of id) arguments ≡ b → cond b (Some (codes "false")) None ≡ first_of id (placed_rows words arguments)
none_given id words arguments b none is =
    ap₂ (λ (found : Option Text) (flag : Bool). option_or found (cond flag (Some (codes "false")) None)) none (sym is)
    ∙ sym (placed_first id words arguments)
