use Rattle.std.proofs.Common.{◌∙◌, ap, arith}
use Rattle.ipc_tables.specs.Objects.{row_at}
use Rattle.ipc_tables.specs.TablesView.{TablesView}
use Rattle.ipc_tables.proofs.Numbering.{found}
use Rattle.ipc_tables.proofs.tables.Tables.object.Goals as goal

pub returns : goal.returns
returns c = c.get.ensures ∙ found c.args.number 0 c.args.number c.self.inside.objects.rows c.self.invariant.counted.numbered (omega arith) ∙ ap (λ (t : TablesView). row_at t.objects c.args.number) c.self.view_is
