use Rattle.ipc_loop.proofs.RoundLemmas.{each_link}
use Rattle.ipc_loop.proofs.laws.link_is_served.Goals as goal

pub returns : goal.returns
returns c = each_link
