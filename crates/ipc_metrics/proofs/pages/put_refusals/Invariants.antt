use Rattle.std.proofs.Common.{◌≡◌, ◌++◌, drop}
use Rattle.std.specs.Prelude.{flat_map}
use Rattle.std.specs.String.{string_bytes}
use Rattle.ipc_metrics.specs.Pages.{refusal_text}
use Rattle.ipc_metrics.proofs.pages.put_refusals.Given as goal

-- the text so far and the rules that are left are the whole text
abbrev pub invariant-loop-rule : goal.invariant-loop-rule
invariant-loop-rule l =
    string_bytes l.text ++ flat_map (refusal_text l.numbers l.name) (drop l.rule-index l.rules)
    ≡ string_bytes l.initial.text ++ flat_map (refusal_text l.numbers l.name) l.rules
