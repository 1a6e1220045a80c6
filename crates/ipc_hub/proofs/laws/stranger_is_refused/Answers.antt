use Rattle.ipc_hub.proofs.RefusalLemmas.{each_stranger}
use Rattle.ipc_hub.proofs.laws.stranger_is_refused.Goals as goal

pub returns : goal.returns
returns c = each_stranger
