use Rattle.std.proofs.Common.{◌+◌, length, ap, arith}
use Rattle.ipc_containers.specs.Slots.{most_slots}
use Rattle.ipc_containers.proofs.NumbersLemmas.{all_length}
use Rattle.ipc_containers.proofs.numbered.settle.Goals as goal

pub move_oldest-requires-2-clause-fits : goal.move_oldest-requires-2-clause-fits
move_oldest-requires-2-clause-fits g c =
    let new = c.move_oldest.new in
    let same = ap (λ slots. length slots) c.move_oldest.ensures.values in
    let before = all_length c.args.older.now c.args.recent.now c.args.base.now in
    let after = all_length new.older new.recent new.base in
    let fits = c.requires.fits in
    omega arith

pub returns-clause-two_fewer : goal.returns-clause-two_fewer
returns-clause-two_fewer g c most le before now =
    let same = ap (λ slots. most_slots slots) c.move_oldest.ensures.values in
    c.move_oldest-2.ensures.one_fewer most (omega arith) (λ then. c.move_oldest.ensures.one_fewer (most + 1) (omega arith) (λ was. let two = before was in omega arith) then) now
