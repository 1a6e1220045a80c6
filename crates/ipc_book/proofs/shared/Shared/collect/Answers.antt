use Rattle.ipc_book.proofs.Collected.{collected, collected_by_nobody}
use Rattle.ipc_book.proofs.shared.Shared.collect.Goals as goal

pub returns-clause-given : goal.returns-clause-given
returns-clause-given g c =
    let a = c.deref_mut.result.now.core in
    (a.config, collected a c.collect.new.self.core c.args.seat.now.sid c.args.seat.now.list c.collect.result.items c.collect.ensures.legal c.collect.ensures.in_range c.collect.ensures.boxes c.collect.ensures.given)

pub returns-clause-nobody : goal.returns-clause-nobody
returns-clause-nobody g c e =
    let a = c.deref_mut.result.now.core in
    collected_by_nobody a c.collect.new.self.core c.args.seat.now.sid c.args.seat.now.list c.collect.result.items c.collect.ensures.given e
