use Rattle.std.proofs.Common.{ap, ◌∙◌}
use Rattle.std.specs.Option.{option_map}
use Rattle.ipc_state.specs.Agrees.{held_in}
use Rattle.ipc_state.proofs.Looked.{held_meant}
use Rattle.ipc_state.proofs.lookup.Lookup.held.Goals as goal

pub returns : goal.returns
returns c =
    let met = c.self.invariant in
    rw (← c.self.view_is) (c.held_in.ensures ∙ ap (option_map held_in) met.of_row ∙ held_meant _ _ _ _ met.core)
