use Rattle.std.proofs.Common.{◌≡◌, ◌++◌, drop, map}
use Rattle.std.specs.Prelude.{flat_map}
use Rattle.std.specs.String.{string_bytes}
use Rattle.ipc_metrics.specs.Families.{family_of_row}
use Rattle.ipc_metrics.specs.Pages.{family_text}
use Rattle.ipc_metrics.proofs.pages.put_families.Given as goal

-- the text so far and the families that are left are the whole text
abbrev pub invariant-loop-family : goal.invariant-loop-family
invariant-loop-family l =
    string_bytes l.text ++ flat_map (family_text l.numbers) (map family_of_row (drop l.family-index l.families))
    ≡ string_bytes l.initial.text ++ flat_map (family_text l.numbers) (map family_of_row l.families)
