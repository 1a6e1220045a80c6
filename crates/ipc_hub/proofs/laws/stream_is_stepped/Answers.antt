use Rattle.ipc_hub.proofs.StreamLemmas.{each_stream}
use Rattle.ipc_hub.proofs.laws.stream_is_stepped.Goals as goal

pub returns : goal.returns
returns c = each_stream
