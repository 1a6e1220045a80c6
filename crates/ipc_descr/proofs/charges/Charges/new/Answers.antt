use Rattle.std.proofs.Common.{◌∙◌, ap, map}
use Rattle.ipc_descr.specs.Charges.{uncharged}
use Rattle.ipc_descr.proofs.ChargesLemmas.{ids_of_users}
use Rattle.ipc_descr.proofs.charges.Charges.new.Goals as goal

pub invariant_of-result : goal.invariant_of-result
invariant_of-result c = ids_of_users c.in_ok-ids.ids c.args.users.now c.in_ok-rows.rows.items (c.in_ok-ids.ensures.cases ∙ c.ids.ensures) (c.in_ok-rows.ensures ∙ ap (map uncharged) c.as_slice.ensures)
