use Rattle.ipc_core.proofs.LawLemmas.{all_is_kept}
use Rattle.ipc_core.proofs.laws.all_is_kept.Goals as goal

pub returns : goal.returns
returns c = all_is_kept
