use Rattle.ipc_hub.proofs.RaisedLemmas.{nothing_raised}
use Rattle.ipc_hub.proofs.laws.nothing_is_raised.Goals as goal

pub returns : goal.returns
returns c = nothing_raised
