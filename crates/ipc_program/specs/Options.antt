-- The program's arguments in clap's terms.
use Rattle.std.specs.Prelude.{◌≡◌, true, false, List, [], ◌∷◌, ◌++◌, Some, codes}
use Rattle.clap.specs.Simple.{App, Shape, app_of, new_shape, with_rule, with_subcommand}
use Rattle.clap.specs.Walk.{Rule, Text}
use Rattle.clap.specs.declared.builder.action.ArgAction.TheVariants.{Append}
use Rattle.clap.specs.declared.builder.command.Command.{Command}
use Rattle.clap.specs.declared.builder.command.Command.TheViews.{out-Command}
use Rattle.ipc_words.specs.Grammar.{flag, required, valued}

-- `--NAME VALUE`
abbrev pub value_option : Text → Rule
value_option name = record (valued name) { value_names = 1 }

-- a word that must be given
abbrev pub place : Text → Rule
place name = record (required name) { value_names = 1 }

-- one such word or more
abbrev pub places : Text → Rule
places name = record (required name) { action = Some Append; value_names = 1 }

-- `[--msg-max N] [--msgsize-max N] [--queues-max N]`
abbrev pub limit_options : List Rule
limit_options = value_option (codes "msg-max") ∷ value_option (codes "msgsize-max") ∷ value_option (codes "queues-max") ∷ []

-- `[--one-thread] [--connections N] [--keep-records N] [--keep-bytes N] [--keep-all]`
abbrev pub thread_options : List Rule
thread_options = flag (codes "one-thread") ∷ value_option (codes "connections") ∷ value_option (codes "keep-records") ∷ value_option (codes "keep-bytes") ∷ flag (codes "keep-all") ∷ []

-- `[--trail-file FILE] [--trail-sync] [--trail-segment N] [--trail-compact N] [--trail-keep]`
abbrev pub trail_options : List Rule
trail_options =
    value_option (codes "trail-file") ∷ flag (codes "trail-sync") ∷ value_option (codes "trail-segment") ∷ value_option (codes "trail-compact") ∷ flag (codes "trail-keep") ∷ []

-- these, and `[--workers N] [--stop-after N] [--log FILE] [--socket-mode OCTAL]`
abbrev pub server_options : List Rule
server_options = thread_options ++ value_option (codes "workers") ∷ value_option (codes "stop-after") ∷ value_option (codes "log") ∷ value_option (codes "socket-mode") ∷ []

-- `[--metrics ADDRESS] [--stats SECONDS]`
abbrev pub metrics_options : List Rule
metrics_options = value_option (codes "metrics") ∷ value_option (codes "stats") ∷ []

-- `[--audit] [--from N] [--to N] [--answers SID]`
abbrev pub line_options : List Rule
line_options = flag (codes "audit") ∷ value_option (codes "from") ∷ value_option (codes "to") ∷ value_option (codes "answers") ∷ []

-- `script`, with the limits
abbrev pub script_shape : Shape
script_shape = record (new_shape (codes "script")) { rules = limit_options }

-- `serve USERS ADDRESS`, with the server's options and the limits
abbrev pub serve_shape : Shape
serve_shape = record (new_shape (codes "serve")) {
  rules = place (codes "users") ∷ place (codes "address") ∷ server_options ++ metrics_options ++ trail_options ++ limit_options;
}

-- `replay USERS FILE..`, with what lines are printed
abbrev pub replay_shape : Shape
replay_shape = record (new_shape (codes "replay")) { rules = place (codes "users") ∷ places (codes "files") ∷ line_options }

-- `USERS NEW OLD.. [--to USERS]`, with the limits
abbrev pub retold_words : List Rule
retold_words = place (codes "users") ∷ place (codes "new") ∷ places (codes "files") ∷ value_option (codes "to") ∷ limit_options

-- `compact`, or `same`, with these words
abbrev pub retold_shape : Text → Shape
retold_shape name = record (new_shape name) { rules = retold_words }

-- `mqserve`, without subcommands
abbrev pub bare_program : App
bare_program = record { top = record (new_shape (codes "mqserve")) { has_version = true }; subs = [] }

-- `mqserve`, with these subcommands
abbrev pub app_of_program : App
app_of_program =
    with_subcommand (with_subcommand (with_subcommand (with_subcommand (with_subcommand bare_program script_shape) serve_shape) replay_shape) (retold_shape (codes "compact"))) (retold_shape (codes "same"))

-- the command with these behind its other arguments
abbrev pub with_rules : List Rule → App → App
with_rules [] app = app
with_rules (rule ∷ rules) app = with_rules rules (with_rule app rule)

-- ---- commands of the program

-- no argument of the command is its subcommands' too
abbrev pub HasNoGlobals : Command → Type 0
HasNoGlobals command = (out-Command command).has_globals ≡ false

-- a subcommand of this shape
abbrev pub IsSubcommand : Shape → Command → Type 0
IsSubcommand shape command = (app_of command ≡ record { top = shape; subs = [] }) × HasNoGlobals command

-- `new` is `old` with these arguments behind its own, none of them global
abbrev pub Adds : List Rule → Command → Command → Type 0
Adds rules old new = (app_of new ≡ with_rules rules (app_of old)) × (HasNoGlobals old → HasNoGlobals new)
