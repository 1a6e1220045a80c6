use Rattle.std.proofs.Common.{ap, ◌∙◌}
use Rattle.std.specs.Option.{option_map}
use Rattle.ipc_descr.specs.declared.row.Row.{Row}
use Rattle.ipc_state.proofs.Looked.{number_held, bound_meant}
use Rattle.ipc_state.proofs.lookup.Lookup.meant.Goals as goal

pub returns-clause-held : goal.returns-clause-held
returns-clause-held c =
    let met = c.self.invariant in
    rw (← c.self.view_is) (c.number_in.ensures ∙ ap (option_map (λ (r : Row). r.object)) met.of_row ∙ number_held _ _ _ c.self.inside.event.now met.core)

pub returns-clause-bound : goal.returns-clause-bound
returns-clause-bound c =
    let met = c.self.invariant in
    rw (← c.self.view_is) (met.of_bound ∙ bound_meant _ _ _ c.self.inside.event.now met.core)
