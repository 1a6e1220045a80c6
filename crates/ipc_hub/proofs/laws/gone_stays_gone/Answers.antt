use Rattle.ipc_hub.proofs.GoneLemmas.{stays_gone}
use Rattle.ipc_hub.proofs.laws.gone_stays_gone.Goals as goal

pub returns : goal.returns
returns c = stays_gone
