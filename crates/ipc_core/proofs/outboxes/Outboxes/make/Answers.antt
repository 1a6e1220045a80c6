use Rattle.std.proofs.Common.{◌≡◌, ◌≤◌, ◌∙◌, false, cond, [], Option, Some, None, slice_get, refl, sym, ap, subst, arith}
use Rattle.std.proofs.lemmas.Bool.{eq-eqb}
use Rattle.ipc_containers.specs.Slots.{at}
use Rattle.ipc_core.specs.Boxes.{untaken_in, room_in}
use Rattle.ipc_core.specs.declared.outboxes.Outbox.{Outbox}
use Rattle.ipc_core.proofs.BoxSlots.{slot_is, slot_each}
use Rattle.ipc_core.proofs.outboxes.Outboxes.make.Goals as goal

pub returns-clause-kept : goal.returns-clause-kept
returns-clause-kept c s =
    let boxes = c.args.self.now.boxes in
    let left : Outbox = record { answers = c.reserve.new.self; has_ended = false } in
    let none : [] ≡ c.reserve.new.self.items = sym (c.in_ok-reserve.ensures.items ∙ c.new-answers.ensures.items) in
    ap (λ slots. untaken_in (at slots s)) c.in_ok-put.ensures.ok ∙ slot_each (λ (x y : Option Outbox). untaken_in y ≡ untaken_in x) (λ o. Some left) boxes c.args.sid.0 None c.requires (sym none) (λ x. refl) s

pub returns-clause-room : goal.returns-clause-room
returns-clause-room c =
    let boxes = c.args.self.now.boxes in
    let n = c.args.sid.0 in
    let left : Outbox = record { answers = c.reserve.new.self; has_ended = false } in
    let is = ap (λ slots. room_in (at slots n)) c.in_ok-put.ensures.ok ∙ slot_is room_in (λ o. Some left) boxes n None c.requires n ∙ ap (λ b. cond b (room_in (Some left)) (room_in (at boxes n))) (eq-eqb n n refl) in
    let room = c.in_ok-reserve.ensures.ok in
    omega arith

pub returns-clause-more : goal.returns-clause-more
returns-clause-more c s =
    let boxes = c.args.self.now.boxes in
    let left : Outbox = record { answers = c.reserve.new.self; has_ended = false } in
    subst (λ slots. room_in (at boxes s) ≤ room_in (at slots s)) (sym c.in_ok-put.ensures.ok) (slot_each (λ (x y : Option Outbox). room_in x ≤ room_in y) (λ o. Some left) boxes c.args.sid.0 None c.requires (omega arith) (λ x. omega arith) s)
