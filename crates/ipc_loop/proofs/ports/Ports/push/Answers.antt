use Rattle.std.proofs.Common.{◌∙◌, ◌+◌, ◌≤◌, ◌++◌, ◌∷◌, [], false, Some, length, ap, arith, rules}
use Rattle.std.specs.Vec.{vec_capacity}
use Rattle.ipc_loop.specs.Ports.{Port}
use Rattle.ipc_loop.specs.Standing.{port_in, is_queued_in, seen, flags}
use Rattle.ipc_loop.specs.declared.ports.Place.{Place}
use Rattle.ipc_loop.proofs.PlaceLemmas.{as_many, map_push}
use Rattle.ipc_loop.proofs.KeepingLemmas.{open_below, kept_push}
use Rattle.ipc_loop.proofs.ports.Ports.push.Goals as goal

pub overflow_add-open : goal.overflow_add-open
overflow_add-open c =
    let few : c.self.inside.open ≤ length c.self.inside.all = (let below = open_below (seen c.self.inside.all) in let long = as_many port_in c.self.inside.all in let count = c.self.invariant.count in omega arith) in
    let number = c.next_number-number.ensures in
    search rules

pub invariant_of-self-2 : goal.invariant_of-self-2
invariant_of-self-2 c =
    let all = c.self.inside.all in
    let place : Place = record { port = c.new.result; is_queued = false } in
    let put = ap seen c.in_ok-push.ensures.ok ∙ map_push port_in all (Some place) ∙ ap (λ (p : Port). seen all ++ Some p ∷ []) c.new.ensures in
    let more = ap flags c.in_ok-push.ensures.ok ∙ map_push is_queued_in all (Some place) in
    let t = c.self.inside.turns.items in
    let n = c.self.inside.next.items in
    let o = c.self.inside.open in
    let sat = c.saturating_add.ensures in
    let sat' = c.saturating_add-2.ensures in
    let nexts = c.len.ensures in
    let turns = c.len-2.ensures in
    let same = ap (λ items. length items) c.in_ok-reserve.ensures.items in
    let same' = ap (λ items. length items) c.in_ok-reserve-2.ensures.items in
    let room = c.in_ok-reserve.ensures.ok in
    let room' = c.in_ok-reserve-2.ensures.ok in
    let small = c.reserve.new.self.small in
    let small' = c.reserve-2.new.self.small in
    let ok = c.reserve.new.self.ok in
    let ok' = c.reserve-2.new.self.ok in
    let was = c.self.inside.turns.ok in
    let was' = c.self.inside.next.ok in
    let fits : length t + (o + 1 + length n) ≤ vec_capacity c.reserve.new.self = omega arith in
    let fits' : length t + (o + 1 + length n) ≤ vec_capacity c.reserve-2.new.self = omega arith in
    kept_push (seen all) (seen c.push.new.self) (flags all) (flags c.push.new.self) t c.reserve.new.self.items n c.reserve-2.new.self.items o _ _ _ _ c.self.invariant put more c.in_ok-reserve.ensures.items c.in_ok-reserve-2.ensures.items fits fits'
