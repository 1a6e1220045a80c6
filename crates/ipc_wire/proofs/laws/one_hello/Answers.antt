use Rattle.ipc_wire.proofs.OrderLemmas.{one_hello}
use Rattle.ipc_wire.proofs.laws.one_hello.Goals as goal

pub returns : goal.returns
returns c = λ first w. one_hello first w
