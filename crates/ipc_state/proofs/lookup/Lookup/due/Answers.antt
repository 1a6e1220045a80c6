use Rattle.ipc_state.proofs.Ending.{due_found}
use Rattle.ipc_state.proofs.lookup.Lookup.due.Goals as goal

pub returns : goal.returns
returns c =
    let met = c.self.invariant in
    rw (← c.self.view_is) (due_found _ _ c.self.inside.clock.now c.args.moment c.due_at.result met.core.legal met.on_time c.due_at.ensures)
