use Rattle.std.proofs.Common.{arith}
use Rattle.ipc_containers.proofs.CallsLemmas.{below_higher}
use Rattle.ipc_containers.proofs.tree.Tree.parting.Goals as goal

pub returns-then-middle-place-clause-behind : goal.returns-then-middle-place-clause-behind
returns-then-middle-place-clause-behind c = let lt = c.if-last-middle.true in below_higher _ _ c.args.self.now (omega arith) c.last_place-last.ensures
