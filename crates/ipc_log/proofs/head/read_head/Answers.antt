use Rattle.ipc_log.proofs.HeadLemmas.{found_within}
use Rattle.ipc_log.proofs.head.read_head.Goals as goal

pub returns-clause-within : goal.returns-clause-within
returns-clause-within c = found_within c.args.bytes.now c.head_of.result (rw c.in-Some.is at c.in_ok-text.ensures.some).1 c.head_of.ensures.size
