use Rattle.std.proofs.Common.{rules}
use Rattle.ipc_descr.proofs.descriptions.Descrs.opened.Goals as goal

pub returns-clause-opened : goal.returns-clause-opened
returns-clause-opened c = search rules
