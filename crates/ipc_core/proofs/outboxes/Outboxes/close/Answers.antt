use Rattle.std.proofs.Common.{◌≡◌, ◌∙◌, true, List, [], ◌∷◌, length, Option, Some, slice_get, refl, sym, ap, arith}
use Rattle.std.proofs.lemmas.Bool.Decides.{nat_tests}
use Rattle.ipc_terms.specs.declared.call.Answer.{Answer}
use Rattle.std.specs.Option.{option_copied_mut}
use Rattle.ipc_terms.specs.Lists.{changed}
use Rattle.ipc_containers.specs.Slots.{at, emptied}
use Rattle.ipc_containers.proofs.SlotsLemmas.{slot_at}
use Rattle.ipc_core.specs.Boxes.{untaken_in}
use Rattle.ipc_core.specs.declared.outboxes.Outbox.{Outbox}
use Rattle.ipc_core.proofs.BoxSlots.{slot_each, emptied_after}
use Rattle.ipc_core.proofs.outboxes.Outboxes.close.Goals as goal

none_left : (items : List Answer) → length items ≡ 0 → items ≡ []
none_left [] e = refl
none_left (x ∷ items) e = absurd (omega arith)

pub returns-then-is_empty : goal.returns-then-is_empty
returns-then-is_empty c s =
    let boxes = c.args.self.now.boxes in
    let n = c.args.sid.0 in
    let there = slot_at boxes n c.in-Some.outbox.now (sym c.get_mut.ensures.value ∙ ap option_copied_mut c.in-Some.is) in
    let is = c.take.ensures.rest ∙ ap (λ slots. changed emptied slots n) (rw c.in-Some.is at (c.get_mut.follows.holds c.in-Some.outbox.now)) ∙ emptied_after (λ o. Some c.in-Some.outbox.now) boxes n in
    let none : [] ≡ c.in-Some.outbox.now.answers.items = sym (none_left c.in-Some.outbox.now.answers.items (let long = c.in-Some.outbox.now.answers.ok in let empty = c.if-is_empty.ensures in grind (arith, nat_tests))) in
    ap (λ slots. untaken_in (at slots s)) is ∙ slot_each (λ (x y : Option Outbox). untaken_in y ≡ untaken_in x) emptied boxes n (Some c.in-Some.outbox.now) there none (λ x. refl) s

pub returns-else-is_empty : goal.returns-else-is_empty
returns-else-is_empty c s =
    let boxes = c.args.self.now.boxes in
    let n = c.args.sid.0 in
    let there = slot_at boxes n c.in-Some.outbox.now (sym c.get_mut.ensures.value ∙ ap option_copied_mut c.in-Some.is) in
    let left : Outbox = record { answers = c.in-Some.outbox.now.answers; has_ended = true } in
    ap (λ slots. untaken_in (at slots s)) (rw c.in-Some.is at (c.get_mut.follows.holds left)) ∙ slot_each (λ (x y : Option Outbox). untaken_in y ≡ untaken_in x) (λ o. Some left) boxes n (Some c.in-Some.outbox.now) there refl (λ x. refl) s
