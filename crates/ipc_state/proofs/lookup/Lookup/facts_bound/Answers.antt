use Rattle.std.proofs.Common.{ap, ◌∙◌}
use Rattle.std.specs.Prelude.{option_and_then}
use Rattle.std.specs.Option.{option_map}
use Rattle.ipc_tables.specs.declared.rows.ObjectRow.{ObjectRow}
use Rattle.ipc_tables.specs.Objects.{row_at}
use Rattle.ipc_state.proofs.Looked.{facts_meant_by_name}
use Rattle.ipc_state.proofs.lookup.Lookup.facts_bound.Goals as goal

pub returns : goal.returns
returns c =
    let met = c.self.invariant in
    let named = met.of_named ∙ ap (option_and_then (row_at c.self.inside.tables.now.objects)) met.of_bound in
    rw (← c.self.view_is) (c.facts_in.ensures ∙ ap (option_map (λ (r : ObjectRow). r.facts)) named ∙ facts_meant_by_name _ _ _ _ met.core)
