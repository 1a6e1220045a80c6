-- Words that stand at a command's arguments in their order, and options behind them.
use Rattle.std.specs.Prelude.{⊤, ◌≡◌, ℕ, ◌==◌, ◌&&◌, Bool, true, false, not, List, [], ◌∷◌, ◌++◌, map, take, drop, find, fold, Option, Some, None, if◌then◌else◌, slice_index, codes}
use Rattle.std.specs.List.{list_all, list_any}
use Rattle.std.specs.Option.{option_map_or}
use Rattle.std.specs.Str.{bytes_eq}
use Rattle.clap.specs.Lexer.{long_of}
use Rattle.clap.specs.Matches.{found_of}
use Rattle.clap.specs.Simple.{filled, filled_from, index_after, with_index}
use Rattle.clap.specs.Walk.{Row, Rule, arg_by_id, arg_by_index, arg_by_long, rows_of, with_default}
use Rattle.clap.specs.declared.builder.value_parser.Reading.TheVariants.{AsWritten}
use Rattle.clap.specs.declared.parser.matches.ValueSource.TheVariants.{CommandLine}
use Rattle.ipc_words.specs.Grammar.{Form, rule_of_argument}
use Rattle.ipc_words.specs.declared.commands.Argument.{Argument}
use Rattle.ipc_words.specs.declared.commands.Argument.TheVariants.{Required, Optional, Flag, Valued}
use Rattle.ipc_words.specs.declared.readings.Found.{Found}
use Rattle.ipc_words.specs.declared.readings.Found.TheVariants.{Placed, Parsed}

abbrev pub name_of : Argument → List ℕ
name_of (Required name) = name.now
name_of (Optional name) = name.now
name_of (Flag name) = name.now
name_of (Valued name) = name.now

-- a word alone stands for the argument
abbrev pub is_value : Argument → Bool
is_value (Required name) = true
is_value (Optional name) = true
is_value (Flag name) = false
is_value (Valued name) = false

-- the argument may be left out
abbrev pub is_optional : Argument → Bool
is_optional (Required name) = false
is_optional _ = true

-- a value follows the argument's own word
abbrev pub is_valued : Argument → Bool
is_valued (Valued name) = true
is_valued _ = false

-- the flag of this name
abbrev pub is_flag_of : List ℕ → Argument → Bool
is_flag_of name (Flag flag) = bytes_eq flag.now name
is_flag_of name _ = false

-- the word is the name behind two hyphens
abbrev pub is_spelled : List ℕ → List ℕ → Bool
is_spelled word name = bytes_eq (take 2 word) (codes "--") && bytes_eq (drop 2 word) name

-- the argument's own word is this
abbrev pub is_option_of : List ℕ → Argument → Bool
is_option_of word (Flag name) = is_spelled word name.now
is_option_of word (Valued name) = is_spelled word name.now
is_option_of word _ = false

abbrev pub begins_with_hyphen : List ℕ → Bool
begins_with_hyphen word = slice_index word 0 == 45

-- Options in any order, none of them twice, each with its value if it has one. `due` says that a value is to come.
unfoldable pub are_options : Bool → List Argument → List (List ℕ) → Bool
are_options due arguments [] = not due
are_options true arguments (word ∷ words) = not (begins_with_hyphen word) && are_options false arguments words
are_options false arguments (word ∷ words) =
    option_map_or (λ option. not (list_any (bytes_eq word) words) && are_options (is_valued option) arguments words)
    (find (is_option_of word) arguments) false

-- each word is the value of the argument at its place, or stands among the options behind the values; and all other
-- arguments may be left out
unfoldable pub is_placed : List (List ℕ) → List Argument → Bool
is_placed [] arguments = list_all is_optional arguments
is_placed (word ∷ words) [] = false
is_placed (word ∷ words) (argument ∷ arguments) =
    if is_value argument
    then not (begins_with_hyphen word) && is_placed words arguments
    else list_all is_optional (argument ∷ arguments) && are_options false (argument ∷ arguments) (word ∷ words)

-- clap's row of an argument with one word
abbrev pub row_of_word : List ℕ → List ℕ → Row
row_of_word name word = record {
  id = name;
  values = word ∷ [];
  count = None;
  source = Some CommandLine;
  reading = AsWritten;
}

-- the value of an option that these words follow: a flag stands for `true`
abbrev pub option_value : List (List ℕ) → List ℕ
option_value [] = codes "true"
option_value (word ∷ words) = if begins_with_hyphen word then codes "true" else word

-- a row for each option
unfoldable pub option_rows : List (List ℕ) → List Row
option_rows [] = []
option_rows (word ∷ words) =
    if bytes_eq (take 2 word) (codes "--")
    then row_of_word (drop 2 word) (option_value words) ∷ option_rows words
    else option_rows words

-- each word at the argument of its place, and the options behind them
unfoldable pub given_rows : List (List ℕ) → List Argument → List Row
given_rows [] arguments = []
given_rows (word ∷ words) [] = []
given_rows (word ∷ words) (argument ∷ arguments) =
    if is_value argument
    then row_of_word (name_of argument) word ∷ given_rows words arguments
    else option_rows (word ∷ words)

-- what is given, and the default of each flag that isn't
abbrev pub placed_rows : List (List ℕ) → List Argument → List Row
placed_rows words arguments = fold with_default (given_rows words arguments) (filled_from 1 (map rule_of_argument arguments))

-- what stands at the arguments
abbrev pub rows_in : Found → List Row
rows_in (Placed words arguments) = placed_rows (map (λ w. w.now) words.now) arguments.now
rows_in (Parsed matches) = rows_of (found_of matches.now)

-- A rule without a long name is found by its place, and one with a long name by its own word.
abbrev pub IsFoundBy : List Rule → ℕ → Rule → Option (List ℕ) → Type 0
IsFoundBy all i rule None = arg_by_index all i ≡ Some rule
IsFoundBy all i rule (Some name) =
    (arg_by_long all name ≡ Some rule)
    × (long_of (codes "--" ++ name) ≡ Some (name, None))
    × (bytes_eq name [] ≡ false)

-- Each of these rules, of which the first without a long name stands at place i, is found so and by its id, which
-- none of `earlier` is.
unfoldable pub AreFound : List Rule → ℕ → List (List ℕ) → List Rule → Type 0
AreFound all i earlier [] = ⊤
AreFound all i earlier (rule ∷ rules) =
    IsFoundBy all i (with_index i (filled rule)) rule.long
    × (arg_by_id all rule.id ≡ Some (with_index i (filled rule)))
    × (list_any (λ name. bytes_eq name rule.id) earlier ≡ false)
    × AreFound all (index_after i rule) (earlier ++ rule.id ∷ []) rules

-- each argument of the form is
abbrev pub FindsArguments : Form → Type 0
FindsArguments form = AreFound (filled_from 1 form.rules) 1 [] form.rules
