use Rattle.std.proofs.Common.{ap, [], ◌∷◌, ◌++◌, arith}
use Rattle.ipc_descr.specs.declared.row.Row.{Row}
use Rattle.ipc_descr.specs.Descriptions.{is_to, Rise}
use Rattle.ipc_descr.proofs.RowsLemmas.{held_below, count_below, last_gone}
use Rattle.ipc_descr.proofs.descriptions.Descrs.open.Goals as goal

pub enter-requires-clause-last : goal.enter-requires-clause-last
enter-requires-clause-last c =
    rw (c.self.invariant.sets c.args.sid.0, c.opened.ensures.opened) (held_below c.self.inside.table.rows 0 c.self.inside.table.opened c.args.sid.0 c.opened.ensures.rise)

pub enter-requires-clause-few : goal.enter-requires-clause-few
enter-requires-clause-few c =
    let few = count_below (is_to c.args.object) c.self.inside.table.rows c.self.inside.table.opened c.opened.ensures.rise in
    let opened = ap (λ d. d.opened) c.self.view_is in
    rw (c.self.invariant.counts c.args.object) (omega arith)

pub invariant_of-self-in-Err : goal.invariant_of-self-in-Err
invariant_of-self-in-Err c =
    let rows = c.self.inside.table.rows in
    let row : Row = record { desc = record { 0 = c.opened.result }; session = c.args.sid; object = c.args.object; access = c.args.access; nonblock = c.args.nonblock } in
    let rise : Rise 0 c.opened.result rows = rw c.opened.ensures.opened c.opened.ensures.rise in
    rw c.in-Err.ensures.err (c.leave.ensures (rows ++ row ∷ []) rows (last_gone rows row rise) (c.in_ok-enter.ensures.ok rows c.self.invariant))
