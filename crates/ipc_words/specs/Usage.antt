-- How each command is written.
use Rattle.std.specs.Prelude.{ℕ, Bool, true, false, List, ◌++◌, flat_map, Option, Some, None, codes}
use Rattle.clap.specs.Walk.{Rule}
use Rattle.clap.specs.declared.builder.action.ArgAction.{ArgAction}
use Rattle.clap.specs.declared.builder.action.ArgAction.TheVariants.{SetTrue}
use Rattle.ipc_words.specs.Grammar.{Form}

-- a value at its place: `<NAME>`, or `[NAME]` where it may be left out
abbrev pub place_usage : List ℕ → Bool → List ℕ
place_usage name true = codes " <" ++ name ++ codes ">"
place_usage name false = codes " [" ++ name ++ codes "]"

-- an option: `[--NAME]` alone, or with a value
abbrev pub option_usage : List ℕ → Option ArgAction → List ℕ
option_usage name (Some SetTrue) = codes " [--" ++ name ++ codes "]"
option_usage name action = codes " [--" ++ name ++ codes " <value>]"

abbrev pub usage_under : Option (List ℕ) → Rule → List ℕ
usage_under None rule = place_usage rule.id rule.required
usage_under (Some name) rule = option_usage name rule.action

-- an argument, behind a space
abbrev pub argument_usage : Rule → List ℕ
argument_usage rule = usage_under rule.long rule

-- a command's line: its word behind two spaces, and each argument
abbrev pub form_usage : Form → List ℕ
form_usage f = codes "  " ++ f.word ++ flat_map argument_usage f.rules ++ codes "\n"
