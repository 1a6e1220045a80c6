use Rattle.ipc_hub.proofs.RunLemmas.{each_output}
use Rattle.ipc_hub.proofs.laws.output_is_the_outbox.Goals as goal

pub returns : goal.returns
returns c = each_output
