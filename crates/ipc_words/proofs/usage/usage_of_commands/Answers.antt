use Rattle.std.proofs.Common.{◌≡◌, ◌∙◌, ◌++◌, ap, ap₂, map, flat_map}
use Rattle.ipc_words.specs.Grammar.{form_of_row, forms}
use Rattle.ipc_words.specs.Usage.{form_usage}
use Rattle.ipc_words.proofs.usage.usage_of_commands.Goals as goal

pub returns : goal.returns
unfolding forms
returns c =
    let same_table : map form_of_row c.as_slice.result.now ≡ forms = ap (map form_of_row) c.as_slice.ensures in
    c.in_ok-push_forms.ensures ∙ ap₂ (λ front rest. front ++ rest) c.new-text.ensures.bytes (ap (flat_map form_usage) same_table)
