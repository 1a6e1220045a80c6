use Rattle.std.proofs.Common.{List, ap}
use Rattle.ipc_tables.specs.contracts.tables.Tables.{the_view}
use Rattle.ipc_tables.specs.declared.rows.Session.{Session}
use Rattle.ipc_tables.proofs.tables.Tables.set_mask.Goals as goal

pub returns : goal.returns
returns c = rw (← c.self.view_is) (ap (λ (l : List Session). record (the_view c.self.inside) { sessions = l }) c.set_mask.ensures)
