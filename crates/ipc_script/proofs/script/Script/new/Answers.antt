use Rattle.std.proofs.lemmas.Result.{err_from_is_err_and}
use Rattle.ipc_script.proofs.FaultLemmas.{of_no_users}
use Rattle.ipc_script.proofs.script.Script.new.Goals as goal

pub returns-in_err-new-clause-fault : goal.returns-in_err-new-clause-fault
returns-in_err-new-clause-fault g c =
    let given = err_from_is_err_and c.from_residual.result c.from_residual.ensures.1 in
    rw (given.1, given.2) (of_no_users _)
