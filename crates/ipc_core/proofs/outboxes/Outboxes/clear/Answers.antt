use Rattle.std.proofs.Common.{◌≡◌, ◌∙◌, eqb, cond, Some, slice_get, sym, ap}
use Rattle.std.specs.Option.{option_copied_mut}
use Rattle.ipc_terms.specs.Lists.{changed}
use Rattle.ipc_containers.specs.Slots.{at, emptied}
use Rattle.ipc_containers.proofs.SlotsLemmas.{slot_at}
use Rattle.ipc_core.specs.Boxes.{untaken_in}
use Rattle.ipc_core.specs.declared.outboxes.Outbox.{Outbox}
use Rattle.ipc_core.proofs.BoxSlots.{slot_is, emptied_after}
use Rattle.ipc_core.proofs.outboxes.Outboxes.clear.Goals as goal

pub returns-then-outbox : goal.returns-then-outbox
returns-then-outbox c s =
    let boxes = c.args.self.now.boxes in
    let n = c.args.sid.0 in
    let there = slot_at boxes n c.in-Some.outbox.now (sym c.get_mut.ensures.value ∙ ap option_copied_mut c.in-Some.is) in
    let is = c.take.ensures.rest ∙ ap (λ slots. changed emptied slots n) (rw c.in-Some.is at (c.get_mut.follows.holds c.in-Some.outbox.now)) ∙ emptied_after (λ o. Some c.in-Some.outbox.now) boxes n in
    ap (λ slots. untaken_in (at slots s)) is ∙ slot_is untaken_in emptied boxes n (Some c.in-Some.outbox.now) there s

pub returns-then-capacity-gt-KEPT_ROOM : goal.returns-then-capacity-gt-KEPT_ROOM
returns-then-capacity-gt-KEPT_ROOM c s =
    let boxes = c.args.self.now.boxes in
    let n = c.args.sid.0 in
    let there = slot_at boxes n c.in-Some.outbox.now (sym c.get_mut.ensures.value ∙ ap option_copied_mut c.in-Some.is) in
    let left : Outbox = record { answers = c.new-none.result; has_ended = c.in-Some.outbox.now.has_ended } in
    ap (λ slots. untaken_in (at slots s)) (rw c.in-Some.is at (c.get_mut.follows.holds left)) ∙ slot_is untaken_in (λ o. Some left) boxes n (Some c.in-Some.outbox.now) there s
    ∙ ap (λ items. cond (eqb n s) items (untaken_in (at boxes s))) c.new-none.ensures.items

pub returns-else-capacity-gt-KEPT_ROOM : goal.returns-else-capacity-gt-KEPT_ROOM
returns-else-capacity-gt-KEPT_ROOM c s =
    let boxes = c.args.self.now.boxes in
    let n = c.args.sid.0 in
    let there = slot_at boxes n c.in-Some.outbox.now (sym c.get_mut.ensures.value ∙ ap option_copied_mut c.in-Some.is) in
    let left : Outbox = record { answers = c.clear.new.self; has_ended = c.in-Some.outbox.now.has_ended } in
    ap (λ slots. untaken_in (at slots s)) (rw c.in-Some.is at (c.get_mut.follows.holds left)) ∙ slot_is untaken_in (λ o. Some left) boxes n (Some c.in-Some.outbox.now) there s
    ∙ ap (λ items. cond (eqb n s) items (untaken_in (at boxes s))) c.clear.ensures.items
