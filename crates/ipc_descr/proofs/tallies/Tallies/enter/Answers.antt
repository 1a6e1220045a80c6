use Rattle.std.proofs.Common.{rules}
use Rattle.ipc_descr.proofs.tallies.Tallies.enter.Goals as goal

pub returns-then-is_err-clause-err : goal.returns-then-is_err-clause-err
returns-then-is_err-clause-err c = search rules
