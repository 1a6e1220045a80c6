use Rattle.ipc_state.proofs.ChargeTables.{used_meant}
use Rattle.ipc_state.proofs.lookup.Lookup.charged.Goals as goal

pub returns : goal.returns
returns c = rw (c.used.ensures, c.charges.ensures) (used_meant _ _ c.args.uid _ c.tables.ensures.agrees.charges)
