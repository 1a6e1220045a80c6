use Rattle.std.proofs.Common.{◌≡◌, ℕ, ◌+◌, Bool, true, false, cond, Option, Some, None, is_some, count_by, length, refl, sym, ap, ◌∙◌, arith}
use Rattle.std.specs.Option.{option_map}
use Rattle.std.specs.Int.{from_bool}
use Rattle.ipc_terms.proofs.Lists.{count_changed}
use Rattle.ipc_containers.specs.Slots.{at as slot_at, emptied}
use Rattle.ipc_tables.specs.Objects.{is_queue}
use Rattle.ipc_tables.specs.TablesView.{is_alive, is_kept}
use Rattle.ipc_tables.specs.Standing.{rows_in, rows_of}
use Rattle.ipc_tables.proofs.Numbering.{found, found_number, emptied_numbered, sum_changed, unchanged}
use Rattle.ipc_tables.proofs.Settling.{AllKept, filter_all, settled_all, untouched, touched_kept, touched_absent, Removed, removed, removed_covered}
use Rattle.ipc_tables.proofs.RowChanges.{slots_same}
use Rattle.ipc_tables.proofs.objects.Objects.remove_dead.Goals as goal
use Rattle.ipc_tables.proofs.objects.Objects.remove_dead.Goals.{In_default, Then-is_alive, In_default-take, After-from}

-- where nothing is to be removed all are kept
none_touched : (c : In_default) → AllKept (is_kept c.args.queues.now c.args.semaphores.now c.args.descriptions.now.rows) (rows_in c.args.self.now)
none_touched c = untouched _ (rows_in c.args.self.now) (rw c.in_default.is at c.requires.others)

alive : (c : Then-is_alive) → AllKept (is_kept c.args.queues.now c.args.semaphores.now c.args.descriptions.now.rows) (rows_in c.args.self.now)
alive c = touched_kept _ c.in-Some.object (rows_in c.args.self.now) (λ row same. ap (is_alive c.args.queues.now c.args.semaphores.now c.args.descriptions.now.rows) same ∙ sym c.is_alive.ensures ∙ c.if-is_alive.true) (rw c.in-Some.is at c.requires.others)

absent : (c : In_default-take) → slot_at c.args.self.now.rows c.in-Some.object ≡ None
absent c = sym c.take.ensures.value ∙ c.in_default-take.is

not_there : (c : In_default-take) → AllKept (is_kept c.args.queues.now c.args.semaphores.now c.args.descriptions.now.rows) (rows_in c.args.self.now)
not_there c = touched_absent _ c.in-Some.object (rows_in c.args.self.now) (sym (found c.in-Some.object 0 c.in-Some.object c.args.self.now.rows c.requires.counted.numbered (omega arith)) ∙ absent c) (rw c.in-Some.is at c.requires.others)

none_taken : (c : In_default-take) → c.take.new.self ≡ c.args.self.now.rows
none_taken c = c.take.ensures.rest ∙ unchanged emptied c.args.self.now.rows c.in-Some.object refl (absent c)

pub returns-in_default-clause-rows : goal.returns-in_default-clause-rows
returns-in_default-clause-rows c = sym (filter_all _ (rows_in c.args.self.now) (none_touched c))

pub returns-in_default-clause-charges : goal.returns-in_default-clause-charges
returns-in_default-clause-charges c = sym (settled_all _ (rows_in c.args.self.now) c.args.self.now.charges (none_touched c))

pub returns-then-is_alive-clause-rows : goal.returns-then-is_alive-clause-rows
returns-then-is_alive-clause-rows c = sym (filter_all _ (rows_in c.args.self.now) (alive c))

pub returns-then-is_alive-clause-charges : goal.returns-then-is_alive-clause-charges
returns-then-is_alive-clause-charges c = sym (settled_all _ (rows_in c.args.self.now) c.args.self.now.charges (alive c))

pub returns-in_default-take-clause-rows : goal.returns-in_default-take-clause-rows
returns-in_default-take-clause-rows c = ap rows_of (none_taken c) ∙ sym (filter_all _ (rows_in c.args.self.now) (not_there c))

pub returns-in_default-take-clause-charges : goal.returns-in_default-take-clause-charges
returns-in_default-take-clause-charges c = sym (settled_all _ (rows_in c.args.self.now) c.args.self.now.charges (not_there c))

pub returns-in_default-take-clause-counted : goal.returns-in_default-take-clause-counted
returns-in_default-take-clause-counted c = (slots_same c.args.self.now _ c.requires.counted (none_taken c)).counted

pub returns-in_default-take-clause-created : goal.returns-in_default-take-clause-created
returns-in_default-take-clause-created c = ap length (none_taken c)

-- one queue less, where it was one
there : (c : After-from) → slot_at c.args.self.now.rows c.in-Some.object ≡ Some c.in-Some-take.row
there c = sym c.take.ensures.value ∙ c.in-Some-take.is

copied_some : {A B : Type 0} (f : A → B) (w : Option A) → is_some (option_map f w) ≡ is_some w
copied_some f None = refl
copied_some f (Some x) = refl

one_if : (b : Bool) → from_bool b ≡ cond b 1 0
one_if true = refl
one_if false = refl

summed : (left from weight all count : ℕ) → from ≡ weight → left + weight ≡ all + 0 → count ≡ all → left + from ≡ count
summed left from weight all count e f g = omega arith

counts : (c : After-from) → count_by is_queue (rows_of c.take.new.self) + c.from.result ≡ c.args.self.now.queue_count
counts c =
    let kind : c.is_some.result ≡ is_queue c.in-Some-take.row = c.is_some.ensures ∙ sym (copied_some _ c.queue.result) ∙ ap is_some c.queue.ensures in
    let left = ap (λ slots. count_by is_queue (rows_of slots) + cond (is_queue c.in-Some-take.row) 1 0) c.take.ensures.rest ∙ sum_changed (λ r. cond (is_queue r) 1 0) None c.in-Some-take.row c.args.self.now.rows c.in-Some.object (there c) in
    summed _ _ _ _ _ (c.from.ensures ∙ one_if c.is_some.result ∙ ap (λ b. cond b 1 0) kind) left c.requires.counted.counted

pub overflow_sub-self : goal.overflow_sub-self
overflow_sub-self c = let all = counts (goal.at.overflow_sub-self c).After-from in omega arith

pub give_back-requires : goal.give_back-requires
give_back-requires c = removed_covered c.in-Some-take.row c.args.self.now.rows c.in-Some.object c.args.self.now.charges (there (goal.at.give_back-requires c).After-from) c.requires.covered

pub returns-clause-counted : goal.returns-clause-counted
returns-clause-counted c =
    let all = counts (goal.at.returns-clause-counted c).After-from in
    record {
      numbered = rw c.take.ensures.rest (emptied_numbered 0 c.in-Some.object c.args.self.now.rows c.requires.counted.numbered);
      counted = omega arith;
    }

pub returns-clause-created : goal.returns-clause-created
returns-clause-created c = ap length c.take.ensures.rest ∙ count_changed emptied c.args.self.now.rows c.in-Some.object

-- the row that is removed was alone to be so
gone : (c : After-from) → Removed (is_kept c.args.queues.now c.args.semaphores.now c.args.descriptions.now.rows) c.in-Some.object c.in-Some-take.row c.args.self.now.rows
gone c =
    let number = found_number c.in-Some.object 0 c.in-Some.object c.in-Some-take.row c.args.self.now.rows c.requires.counted.numbered (omega arith) (there c) in
    removed _ c.in-Some.object 0 c.in-Some.object c.in-Some-take.row c.args.self.now.rows c.requires.counted.numbered (omega arith) (rw c.in-Some.is at c.requires.others) (ap (is_alive c.args.queues.now c.args.semaphores.now c.args.descriptions.now.rows) number ∙ sym c.is_alive.ensures ∙ c.if-is_alive.false) (there c)

pub returns-clause-rows : goal.returns-clause-rows
returns-clause-rows c = ap rows_of c.take.ensures.rest ∙ (gone (goal.at.returns-clause-rows c).After-from).rows

pub returns-clause-charges : goal.returns-clause-charges
returns-clause-charges c = c.give_back.ensures ∙ (gone (goal.at.returns-clause-charges c).After-from).charges c.args.self.now.charges
