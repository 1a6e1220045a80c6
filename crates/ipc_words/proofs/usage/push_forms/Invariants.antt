use Rattle.std.proofs.Common.{◌≡◌, ◌++◌, drop, map}
use Rattle.std.specs.Prelude.{flat_map}
use Rattle.std.specs.String.{string_bytes}
use Rattle.ipc_words.specs.Grammar.{form_of_row}
use Rattle.ipc_words.specs.Usage.{form_usage}
use Rattle.ipc_words.proofs.usage.push_forms.Given as goal

-- the text so far and the commands that are left are the whole text
abbrev pub invariant-loop-form : goal.invariant-loop-form
invariant-loop-form l =
    string_bytes l.text ++ flat_map form_usage (map form_of_row (drop l.form-index l.forms))
    ≡ string_bytes l.initial.text ++ flat_map form_usage (map form_of_row l.forms)
