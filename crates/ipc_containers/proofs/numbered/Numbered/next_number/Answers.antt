use Rattle.std.proofs.Common.{arith}
use Rattle.ipc_containers.proofs.NumbersLemmas.{all_length}
use Rattle.ipc_containers.proofs.numbered.Numbered.next_number.Goals as goal

pub returns : goal.returns
returns g c =
    let all = all_length c.self.inside.older c.self.inside.recent c.self.inside.base in
    let count = c.len.ensures.count in
    rw (← c.self.view_is) (omega arith)
