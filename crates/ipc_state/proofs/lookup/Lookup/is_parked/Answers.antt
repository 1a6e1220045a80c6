use Rattle.std.proofs.Common.{ap, is_some, ◌∙◌}
use Rattle.ipc_terms.specs.Events.{caller}
use Rattle.ipc_state.proofs.Lookups.{parked_is}
use Rattle.ipc_state.proofs.lookup.Lookup.is_parked.Goals as goal

pub returns : goal.returns
returns c =
    let met = c.self.invariant in
    rw (← c.self.view_is) (c.is_parked_in.ensures ∙ ap is_some met.parks ∙ parked_is _ _ _ (caller c.self.inside.event.now).0 met.core.agrees.sessions)
