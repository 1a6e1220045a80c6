use Rattle.std.proofs.Common.{ap, ◌∙◌}
use Rattle.ipc_descr.specs.declared.row.Row.{Row}
use Rattle.ipc_policy.specs.Decides.Rules.{is_some_and}
use Rattle.ipc_state.proofs.Looked.{nonblock_meant}
use Rattle.ipc_state.proofs.lookup.Lookup.is_nonblock.Goals as goal

pub returns : goal.returns
returns c =
    let met = c.self.invariant in
    rw (← c.self.view_is) (c.is_nonblock_in.ensures ∙ ap (is_some_and (λ (r : Row). r.nonblock)) met.of_row ∙ nonblock_meant _ _ _ _ met.core)
