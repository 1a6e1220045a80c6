use Rattle.ipc_core.proofs.LawLemmas.{each_is_added}
use Rattle.ipc_core.proofs.laws.each_is_added.Goals as goal

pub returns : goal.returns
returns c = each_is_added
