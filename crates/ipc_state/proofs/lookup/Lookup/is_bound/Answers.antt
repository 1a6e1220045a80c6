use Rattle.std.proofs.Common.{ap, is_some, ◌∙◌}
use Rattle.ipc_state.proofs.Looked.{is_bound_meant}
use Rattle.ipc_state.proofs.lookup.Lookup.is_bound.Goals as goal

pub returns : goal.returns
returns c =
    let met = c.self.invariant in
    rw (← c.self.view_is) (c.is_some.ensures ∙ ap is_some met.of_bound ∙ is_bound_meant _ _ _ _ met.core)
