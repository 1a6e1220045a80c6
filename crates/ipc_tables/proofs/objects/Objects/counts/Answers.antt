use Rattle.std.proofs.Common.{◌≡◌, ℕ, ◌+◌, ◌<◌, ◌≤◌, ◌∙◌, cond, refl, sym, ap, arith}
use Rattle.std.specs.Prelude.{min}
use Rattle.std.specs.Option.{option_copied}
use Rattle.std.proofs.lemmas.List.Sums.{count_by-le-length}
use Rattle.ipc_containers.proofs.NumbersLemmas.{value_within}
use Rattle.ipc_tables.specs.declared.counts.Counts.{Counts}
use Rattle.ipc_tables.specs.Objects.{is_queue, is_semaphore, messages_in, bytes_of_messages}
use Rattle.ipc_tables.specs.Standing.{rows_in}
use Rattle.ipc_tables.proofs.Numbering.{sum_next, sum_none, count_below}
use Rattle.ipc_tables.proofs.objects.Objects.counts.Goals as goal

same_counts : (x y : Counts) → x.queues ≡ y.queues → x.semaphores ≡ y.semaphores → x.messages ≡ y.messages → x.bytes ≡ y.bytes → x ≡ y
same_counts x y q s m b = ap (λ n. record x { queues = n }) q ∙ ap (λ n. record x { queues = y.queues; semaphores = n }) s ∙ ap (λ n. record x { queues = y.queues; semaphores = y.semaphores; messages = n }) m ∙ ap (λ n. record x { queues = y.queues; semaphores = y.semaphores; messages = y.messages; bytes = n }) b

none_yet : (n : ℕ) → 0 + n ≡ n
none_yet n = omega arith

one_more : (was now weight all rest total : ℕ) → was + all ≡ total → all ≡ weight + rest → now ≡ was + weight → now + rest ≡ total
one_more was now weight all rest total e f g = omega arith

more_bounded : (most was now weight all rest total : ℕ) → min (was + all) most ≡ min total most → all ≡ weight + rest → now ≡ min (was + weight) most → min (now + rest) most ≡ min total most
more_bounded most was now weight all rest total e f g = omega arith

at_most_all : (most now all : ℕ) → now ≡ min all most → now ≤ most
at_most_all most now all e = omega arith

room : (was weight all rest total count slots end : ℕ) → was + all ≡ total → all ≡ weight + rest → total ≤ count → count ≤ slots → end ≡ slots → end < 18446744073709551616 → was + weight < 18446744073709551616
room was weight all rest total count slots end e f le few is fits = omega arith

at_end : (was rest total : ℕ) → was + rest ≡ total → rest ≡ 0 → was ≡ total
at_end was rest total e f = omega arith

at_bounded_end : (most was rest total : ℕ) → was ≤ most → min (was + rest) most ≡ min total most → rest ≡ 0 → was ≡ min total most
at_bounded_end most was rest total le e f = omega arith

pub loop-number-init : goal.loop-number-init
loop-number-init c = record { queues = none_yet _; semaphores = none_yet _; messages = ap (λ n. min n 18446744073709551615) (none_yet _); messages_bounded = omega arith; bytes = ap (λ n. min n 18446744073709551615) (none_yet _); bytes_bounded = omega arith }

pub add-requires-clause-queues : goal.add-requires-clause-queues
add-requires-clause-queues c =
    let rows = c.args.self.now.rows in
    let there = sym c.get.ensures ∙ ap option_copied c.in-Some-get.is in
    let all = sum_next (λ row. cond (is_queue row) 1 0) rows c.loop-number.next c.in-Some.number (c.in-Some.number + 1) c.in-Some-get.row.now c.in-Some.ensures there refl in
    room _ _ _ _ _ _ _ c.next_number-end.result c.loop-number.invariant.queues all (count_by-le-length is_queue (rows_in c.args.self.now)) (count_below rows) c.next_number-end.ensures c.next_number-end.type_inv

pub add-requires-clause-semaphores : goal.add-requires-clause-semaphores
add-requires-clause-semaphores c =
    let rows = c.args.self.now.rows in
    let there = sym c.get.ensures ∙ ap option_copied c.in-Some-get.is in
    let all = sum_next (λ row. cond (is_semaphore row) 1 0) rows c.loop-number.next c.in-Some.number (c.in-Some.number + 1) c.in-Some-get.row.now c.in-Some.ensures there refl in
    room _ _ _ _ _ _ _ c.next_number-end.result c.loop-number.invariant.semaphores all (count_by-le-length is_semaphore (rows_in c.args.self.now)) (count_below rows) c.next_number-end.ensures c.next_number-end.type_inv

pub overflow_add-next : goal.overflow_add-next
overflow_add-next c =
    let within = value_within c.args.self.now.rows c.in-Some.number c.in-Some.ensures.1 in
    let end = c.next_number-end.ensures in
    let range = c.next_number-end.type_inv in
    omega arith

pub loop-number-smaller : goal.loop-number-smaller
loop-number-smaller c =
    let within = value_within c.args.self.now.rows c.in-Some.number c.in-Some.ensures.1 in
    let above = c.in-Some.ensures.0 in
    let end = c.next_number-end.ensures in
    omega arith

pub loop-number-preserved : goal.loop-number-preserved
loop-number-preserved c =
    let rows = c.args.self.now.rows in
    let row = c.in-Some-get.row.now in
    let next = c.loop-number.next in
    let after = c.in-Some.number + 1 in
    let there = sym c.get.ensures ∙ ap option_copied c.in-Some-get.is in
    let all = c.loop-number.invariant in
    record {
      queues = one_more _ _ _ _ _ _ all.queues (sum_next (λ r. cond (is_queue r) 1 0) rows next c.in-Some.number after row c.in-Some.ensures there refl) c.add.ensures.queues;
      semaphores = one_more _ _ _ _ _ _ all.semaphores (sum_next (λ r. cond (is_semaphore r) 1 0) rows next c.in-Some.number after row c.in-Some.ensures there refl) c.add.ensures.semaphores;
      messages = more_bounded 18446744073709551615 _ _ _ _ _ _ all.messages (sum_next (λ r. messages_in r.body) rows next c.in-Some.number after row c.in-Some.ensures there refl) c.add.ensures.messages;
      messages_bounded = at_most_all _ _ _ c.add.ensures.messages;
      bytes = more_bounded 18446744073709551615 _ _ _ _ _ _ all.bytes (sum_next (λ r. bytes_of_messages r.body) rows next c.in-Some.number after row c.in-Some.ensures there refl) c.add.ensures.bytes;
      bytes_bounded = at_most_all _ _ _ c.add.ensures.bytes;
    }

pub returns : goal.returns
returns c =
    let rows = c.args.self.now.rows in
    let next = c.loop-number.next in
    let all = c.loop-number.invariant in
    same_counts _ _
    (at_end _ _ _ all.queues (sum_none (λ r. cond (is_queue r) 1 0) rows next c.in_default.ensures))
    (at_end _ _ _ all.semaphores (sum_none (λ r. cond (is_semaphore r) 1 0) rows next c.in_default.ensures))
    (at_bounded_end 18446744073709551615 _ _ _ all.messages_bounded all.messages (sum_none (λ r. messages_in r.body) rows next c.in_default.ensures))
    (at_bounded_end 18446744073709551615 _ _ _ all.bytes_bounded all.bytes (sum_none (λ r. bytes_of_messages r.body) rows next c.in_default.ensures))
