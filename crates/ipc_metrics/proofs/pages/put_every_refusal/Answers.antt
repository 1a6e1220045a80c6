use Rattle.std.proofs.Common.{◌≡◌, ◌++◌, List, OnOk, flat_map, subst}
use Rattle.std.specs.String.{string_bytes}
use Rattle.ipc_terms.specs.declared.rule.Rule.{Rule}
use Rattle.ipc_metrics.specs.Pages.{refusal_text, refusals_text}
use Rattle.ipc_metrics.proofs.pages.put_every_refusal.Goals as goal

pub returns : goal.returns
unfolding refusals_text
returns c =
    subst (λ (rules : List Rule). OnOk c.put_refusals.result (string_bytes c.put_refusals.new.text ≡ string_bytes c.args.text.now ++ flat_map (refusal_text c.args.numbers.now c.args.name.now) rules))
    c.as_slice.ensures c.put_refusals.ensures
