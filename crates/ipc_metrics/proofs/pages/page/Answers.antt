use Rattle.std.proofs.Common.{◌≡◌, ◌∙◌, ◌++◌, ap, ap₂, map, flat_map}
use Rattle.ipc_metrics.specs.Families.{families, family_of_row}
use Rattle.ipc_metrics.specs.Pages.{family_text}
use Rattle.ipc_metrics.proofs.pages.page.Goals as goal

pub returns : goal.returns
unfolding families
returns c =
    let same_table : map family_of_row c.as_slice.result.now ≡ families = ap (map family_of_row) c.as_slice.ensures in
    c.in_ok-put_families.ensures ∙ ap₂ (λ front rest. front ++ rest) c.new-text.ensures.bytes (ap (flat_map (family_text c.args.numbers.now)) same_table)
