use Rattle.std.proofs.Common.{◌++◌, ◌∙◌, None, refl, sym, ap, arith}
use Rattle.ipc_containers.specs.Slots.{emptied}
use Rattle.ipc_containers.specs.Numbers.{older_slots}
use Rattle.ipc_containers.proofs.NumbersLemmas.{recent_at, recent_changed, value_at, value_changed, still_below, under}
use Rattle.ipc_containers.proofs.numbered.take_out.Goals as goal

pub returns-in-Some-clause-value : goal.returns-in-Some-clause-value
returns-in-Some-clause-value g c =
    let a = c.args in
    let low = c.in-Some.ensures.0 in
    let slot = c.in-Some.ensures.1 in
    c.take.ensures.value ∙ sym (recent_at a.older.now a.recent.now a.base c.in-Some.slot a.number (omega arith))

pub returns-in-Some-clause-rest : goal.returns-in-Some-clause-rest
returns-in-Some-clause-rest g c =
    let a = c.args in
    let low = c.in-Some.ensures.0 in
    let slot = c.in-Some.ensures.1 in
    ap (λ slots. older_slots a.older.now a.base ++ slots) c.take.ensures.rest ∙ sym (recent_changed emptied a.older.now a.recent.now a.base c.in-Some.slot a.number (omega arith))

pub returns-in-None-clause-below : goal.returns-in-None-clause-below
returns-in-None-clause-below g c = still_below c.args.older.now c.remove.new.self c.args.base c.args.number None (under c.args.number c.args.base c.in-None.ensures) c.remove.ensures.updates.0 c.requires

pub returns-in-None-clause-value : goal.returns-in-None-clause-value
returns-in-None-clause-value g c =
    let a = c.args in
    c.remove.ensures.value ∙ sym (value_at a.older.now a.recent.now a.base a.number (under a.number a.base c.in-None.ensures))

pub returns-in-None-clause-rest : goal.returns-in-None-clause-rest
returns-in-None-clause-rest g c =
    let a = c.args in
    value_changed emptied a.older.now c.remove.new.self a.recent.now a.base a.number None (under a.number a.base c.in-None.ensures) c.remove.ensures.updates.0 refl
