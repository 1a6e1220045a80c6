use Rattle.std.proofs.Common.{◌≡◌, ◌≤◌, ◌+◌, ◌∙◌, length, drop, sym, ap, arith}
use Rattle.std.specs.Bool.{if◌then◌else◌}
use Rattle.std.proofs.lemmas.List.{length-drop, length_push}
use Rattle.ipc_containers.specs.Slots.{how_many_filled}
use Rattle.ipc_containers.proofs.SlotsLemmas.{filled_popped, last_left}
use Rattle.ipc_containers.proofs.recent.Recent.pop.Goals as goal

pub overflow_sub-self : goal.overflow_sub-self
overflow_sub-self g c =
    let slots = c.self.inside.slots.items in
    let gone = c.self.inside.gone in
    let rest = c.pop.new.self.items in
    let stands : gone ≤ length rest = (let long = ap (λ xs. length xs) c.in-Some.ensures.items ∙ length_push rest c.in-Some.slot in let view = ap (λ xs. length xs) c.self.view_is in let left = length-drop gone slots in let some = c.if-len-eq0.false in let len = c.len.ensures.count in omega arith) in
    let less = filled_popped (drop gone slots) (drop gone rest) c.in-Some.slot (last_left slots rest gone _ c.in-Some.ensures.items stands) in
    let one : how_many_filled (drop gone slots) ≡ how_many_filled (drop gone rest) + 1 = less ∙ ap (λ b. if b then how_many_filled (drop gone rest) + 1 else how_many_filled (drop gone rest)) (sym c.is_some.ensures ∙ c.if-is_some.true) in
    let filled = c.self.invariant.1 in
    omega arith

pub invariant_of-self-then-is_some : goal.invariant_of-self-then-is_some
invariant_of-self-then-is_some g c =
    let slots = c.self.inside.slots.items in
    let gone = c.self.inside.gone in
    let rest = c.pop.new.self.items in
    let stands : gone ≤ length rest = (let long = ap (λ xs. length xs) c.in-Some.ensures.items ∙ length_push rest c.in-Some.slot in let view = ap (λ xs. length xs) c.self.view_is in let left = length-drop gone slots in let some = c.if-len-eq0.false in let len = c.len.ensures.count in omega arith) in
    let less = filled_popped (drop gone slots) (drop gone rest) c.in-Some.slot (last_left slots rest gone _ c.in-Some.ensures.items stands) in
    let one : how_many_filled (drop gone slots) ≡ how_many_filled (drop gone rest) + 1 = less ∙ ap (λ b. if b then how_many_filled (drop gone rest) + 1 else how_many_filled (drop gone rest)) (sym c.is_some.ensures ∙ c.if-is_some.true) in
    let filled = c.self.invariant.1 in
    (stands, omega arith)

pub invariant_of-self-else-is_some : goal.invariant_of-self-else-is_some
invariant_of-self-else-is_some g c =
    let slots = c.self.inside.slots.items in
    let gone = c.self.inside.gone in
    let rest = c.pop.new.self.items in
    let stands : gone ≤ length rest = (let long = ap (λ xs. length xs) c.in-Some.ensures.items ∙ length_push rest c.in-Some.slot in let view = ap (λ xs. length xs) c.self.view_is in let left = length-drop gone slots in let some = c.if-len-eq0.false in let len = c.len.ensures.count in omega arith) in
    let less = filled_popped (drop gone slots) (drop gone rest) c.in-Some.slot (last_left slots rest gone _ c.in-Some.ensures.items stands) in
    (stands, c.self.invariant.1 ∙ less ∙ ap (λ b. if b then how_many_filled (drop gone rest) + 1 else how_many_filled (drop gone rest)) (sym c.is_some.ensures ∙ c.if-is_some.false))
