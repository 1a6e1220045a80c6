use Rattle.std.proofs.Common.{◌≡◌, ◌++◌, drop, map}
use Rattle.std.specs.Prelude.{flat_map}
use Rattle.std.specs.String.{string_bytes}
use Rattle.ipc_words.specs.Grammar.{rule_of_argument}
use Rattle.ipc_words.specs.Usage.{argument_usage}
use Rattle.ipc_words.proofs.usage.push_arguments.Given as goal

-- the text so far and the arguments that are left are the whole text
abbrev pub invariant-loop-argument : goal.invariant-loop-argument
invariant-loop-argument l =
    string_bytes l.text ++ flat_map argument_usage (map rule_of_argument (drop l.argument-index l.arguments))
    ≡ string_bytes l.initial.text ++ flat_map argument_usage (map rule_of_argument l.arguments)
