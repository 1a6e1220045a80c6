-- Descriptions that are closed one after another leave what is left where all are closed at once.
use Rattle.std.proofs.Common.{◌≡◌, Bool, true, false, cond, ℕ, ◌-◌, ◌||◌, List, [], ◌∷◌, Option, Some, None, refl, sym, ap, ◌∙◌, arith, find, filter, map, is_some}
use Rattle.std.specs.List.{list_any}
use Rattle.std.proofs.lemmas.Bool.{eq-eqb, or_right}
use Rattle.ipc_terms.specs.declared.ids.Desc.{Desc}
use Rattle.ipc_terms.specs.declared.object.Object.{Object}
use Rattle.ipc_queue.specs.Tickets.{Tickets, without_registration}
use Rattle.ipc_names.specs.Directory.{Directory, names_object}
use Rattle.ipc_descr.specs.declared.charges.Charge.{Charge}
use Rattle.ipc_descr.specs.Charges.{is_user, with_less, lowered}
use Rattle.ipc_descr.specs.declared.row.Row.{Row}
use Rattle.ipc_descr.specs.Descriptions.{is_desc, is_to, is_open}
use Rattle.ipc_tables.specs.declared.rows.Body.{Body}
use Rattle.ipc_tables.specs.declared.rows.Body.TheVariants.{Queue as QueueBody, Semaphore as SemaphoreBody}
use Rattle.ipc_tables.specs.declared.rows.ObjectRow.{ObjectRow}
use Rattle.ipc_tables.specs.Objects.{is_queue, queue_in, with_body, registered_in, with_queue, held_by, with_held}
use Rattle.ipc_tables.specs.TablesView.{TablesView, is_alive, is_kept}
use Rattle.ipc_tables.specs.Charging.{settled}
use Rattle.ipc_tables.specs.Steps.{living, with_rows}
use Rattle.ipc_tables.proofs.Settling.{settled_gone, settled_kept}

-- of some descriptions these are left: none gives an object, and none is held, that was not so before
pub record Narrower (less more : List Row) : Type 0 where
  pub gives : (o : ℕ) → is_open less o ≡ true → is_open more o ≡ true
  pub held : (d : ℕ) → is_some (find (is_desc d) less) ≡ true → is_some (find (is_desc d) more) ≡ true

-- ---- to give back in another order

lowered_twice : (a b : ℕ) (x : Charge) → lowered a (lowered b x) ≡ lowered b (lowered a x)
lowered_twice a b x = let same : (x.used - b) - a ≡ (x.used - a) - b = omega arith in ap (λ n. record x { used = n }) same

less_by_tests : (u a v b : ℕ) (x : Charge) (xs : List Charge) (p q : Bool) → is_user u x ≡ p → is_user v x ≡ q → with_less (with_less xs v b) u a ≡ with_less (with_less xs u a) v b → with_less (cond q (lowered b x ∷ xs) (x ∷ with_less xs v b)) u a ≡ with_less (cond p (lowered a x ∷ xs) (x ∷ with_less xs u a)) v b
less_by_tests u a v b x xs true true mine yours rest = rw (mine, yours) (ap (λ y. y ∷ xs) (lowered_twice a b x))
less_by_tests u a v b x xs true false mine yours rest = rw (mine, yours) refl
less_by_tests u a v b x xs false true mine yours rest = rw (mine, yours) refl
less_by_tests u a v b x xs false false mine yours rest = rw (mine, yours) (ap (λ ys. x ∷ ys) rest)

less_twice : (u a v b : ℕ) (charges : List Charge) → with_less (with_less charges v b) u a ≡ with_less (with_less charges u a) v b
less_twice u a v b [] = refl
less_twice u a v b (x ∷ xs) = less_by_tests u a v b x xs (is_user u x) (is_user v x) refl refl (less_twice u a v b xs)

settled_by_test : (keep : ObjectRow → Bool) (row : ObjectRow) (rows : List ObjectRow) (charges : List Charge) (u a : ℕ) (b : Bool) → ((c : List Charge) → with_less (settled keep rows c) u a ≡ settled keep rows (with_less c u a)) → with_less (settled keep rows (cond b charges (with_less charges row.object.creator.0 row.bytes))) u a ≡ settled keep rows (cond b (with_less charges u a) (with_less (with_less charges u a) row.object.creator.0 row.bytes))
settled_by_test keep row rows charges u a true rest = rest charges
settled_by_test keep row rows charges u a false rest = rest (with_less charges row.object.creator.0 row.bytes) ∙ ap (settled keep rows) (less_twice u a row.object.creator.0 row.bytes charges)

settled_less : (keep : ObjectRow → Bool) (rows : List ObjectRow) (charges : List Charge) (u a : ℕ) → with_less (settled keep rows charges) u a ≡ settled keep rows (with_less charges u a)
settled_less keep [] charges u a = refl
settled_less keep (row ∷ rows) charges u a = settled_by_test keep row rows charges u a (keep row) (λ c. settled_less keep rows c u a)

-- ---- to release twice

gone_by : (desc : Desc) (q : Tickets) → q.registered ≡ Some desc → (without_registration desc q).registered ≡ None
unfolding without_registration
gone_by desc q e = rw (e, eq-eqb desc.0 desc.0 refl) refl

-- the registration that is taken back is gone
pub released_none : (desc : Desc) (body : Body) → registered_in body ≡ Some desc → registered_in (with_body (without_registration desc) body) ≡ None
released_none desc (QueueBody q) e = gone_by desc q e
released_none desc (SemaphoreBody q) e = cc

twice_by_test : (less more : List Row) (row : ObjectRow) (desc : Desc) (b : Bool) → Narrower less more → registered_in row.body ≡ Some desc → is_some (find (is_desc desc.0) more) ≡ b → with_held less (held_by more row (Some desc)) ≡ held_by less row (Some desc)
twice_by_test less more row desc true narrower is there = rw (there, is) refl
twice_by_test less more row desc false narrower is there =
    let gone = released_none desc row.body is in
    let none : is_some (find (is_desc desc.0) less) ≡ false = not_before (is_some (find (is_desc desc.0) less)) refl in
    rw (there, gone, none) refl
  where
    not_before : (b : Bool) → is_some (find (is_desc desc.0) less) ≡ b → b ≡ false
    not_before true e = sym (narrower.held desc.0 e) ∙ there
    not_before false e = refl

twice_by : (less more : List Row) (row : ObjectRow) (w : Option Desc) → Narrower less more → registered_in row.body ≡ w → with_held less (held_by more row w) ≡ held_by less row w
twice_by less more row None narrower is = rw is refl
twice_by less more row (Some desc) narrower is = twice_by_test less more row desc (is_some (find (is_desc desc.0) more)) narrower is refl

held_twice : (less more : List Row) (row : ObjectRow) → Narrower less more → with_held less (with_held more row) ≡ with_held less row
held_twice less more row narrower = twice_by less more row (registered_in row.body) narrower refl

-- an object that is released keeps its number, its creator and its bytes
pub record Released (next row : ObjectRow) : Type 0 where
  pub number : next.number ≡ row.number
  pub object : next.object ≡ row.object
  pub bytes : next.bytes ≡ row.bytes
  pub kind : is_queue next ≡ is_queue row

pub released : (rows : List Row) (row : ObjectRow) → Released (with_held rows row) row
released rows row = at (registered_in row.body) where
  kinds : (desc : Desc) (body : Body) → is_some (queue_in (with_body (without_registration desc) body)) ≡ is_some (queue_in body)
  kinds desc (QueueBody q) = refl
  kinds desc (SemaphoreBody q) = refl

  by_held : (desc : Desc) (b : Bool) → Released (cond b row (with_queue (without_registration desc) row)) row
  by_held desc true = record { number = refl; object = refl; bytes = refl; kind = refl }
  by_held desc false = record { number = refl; object = refl; bytes = refl; kind = kinds desc row.body }

  at : (w : Option Desc) → Released (held_by rows row w) row
  at None = record { number = refl; object = refl; bytes = refl; kind = refl }
  at (Some desc) = by_held desc (is_some (find (is_desc desc.0) rows))

-- ---- all at once

-- what is kept of fewer descriptions was kept of more
kept_before : (queues semaphores : Directory) (less more : List Row) (row : ObjectRow) → Narrower less more → is_kept queues semaphores less row ≡ true → is_kept queues semaphores more row ≡ true
kept_before queues semaphores less more row narrower e = at (names_object queues.bindings row.number) (names_object semaphores.bindings row.number) e where
  at : (a b : Bool) → (a || b || is_open less row.number) ≡ true → (a || b || is_open more row.number) ≡ true
  at true b k = refl
  at false true k = refl
  at false false k = narrower.gives row.number k

record Left (queues semaphores : Directory) (less more : List Row) (rows : List ObjectRow) : Type 0 where
  objects : living queues semaphores less (living queues semaphores more rows) ≡ living queues semaphores less rows
  charges : (c : List Charge) → settled (is_kept queues semaphores less) (living queues semaphores more rows) (settled (is_kept queues semaphores more) rows c) ≡ settled (is_kept queues semaphores less) rows c

living_kept : (queues semaphores : Directory) (held : List Row) (row : ObjectRow) (rows : List ObjectRow) → is_kept queues semaphores held row ≡ true → living queues semaphores held (row ∷ rows) ≡ with_held held row ∷ living queues semaphores held rows
living_kept queues semaphores held row rows e = ap (λ b. map (with_held held) (cond b (row ∷ filter (is_kept queues semaphores held) rows) (filter (is_kept queues semaphores held) rows))) e

living_gone : (queues semaphores : Directory) (held : List Row) (row : ObjectRow) (rows : List ObjectRow) → is_kept queues semaphores held row ≡ false → living queues semaphores held (row ∷ rows) ≡ living queues semaphores held rows
living_gone queues semaphores held row rows e = ap (λ b. map (with_held held) (cond b (row ∷ filter (is_kept queues semaphores held) rows) (filter (is_kept queues semaphores held) rows))) e

-- both steps, where the first leaves these rows and charges
both : (keep : ObjectRow → Bool) (rows rows' : List ObjectRow) (charges charges' : List Charge) → rows ≡ rows' → charges ≡ charges' → settled keep rows charges ≡ settled keep rows' charges'
both keep rows rows' charges charges' e f = ap (λ xs. settled keep xs charges) e ∙ ap (settled keep rows') f

left_by_tests : (queues semaphores : Directory) (less more : List Row) (row : ObjectRow) (rows : List ObjectRow) (a b : Bool) → Narrower less more → is_kept queues semaphores more row ≡ a → is_kept queues semaphores less row ≡ b → Left queues semaphores less more rows → Left queues semaphores less more (row ∷ rows)
left_by_tests queues semaphores less more row rows true true narrower before after rest =
    let kept = is_kept queues semaphores less in
    let still : kept (with_held more row) ≡ true = ap (is_alive queues semaphores less) (released more row).number ∙ after in
    let first = living_kept queues semaphores more row rows before in
    record {
      objects = ap (living queues semaphores less) first ∙ living_kept queues semaphores less (with_held more row) (living queues semaphores more rows) still ∙ ap (λ r. r ∷ living queues semaphores less (living queues semaphores more rows)) (held_twice less more row narrower) ∙ ap (λ rs. with_held less row ∷ rs) rest.objects ∙ sym (living_kept queues semaphores less row rows after);
      charges = λ c. both kept _ _ _ _ first (settled_kept (is_kept queues semaphores more) row rows c before) ∙ settled_kept kept (with_held more row) (living queues semaphores more rows) (settled (is_kept queues semaphores more) rows c) still ∙ rest.charges c ∙ sym (settled_kept kept row rows c after);
    }
left_by_tests queues semaphores less more row rows true false narrower before after rest =
    let kept = is_kept queues semaphores less in
    let is = released more row in
    let gone : kept (with_held more row) ≡ false = ap (is_alive queues semaphores less) is.number ∙ after in
    let first = living_kept queues semaphores more row rows before in
    record {
      objects = ap (living queues semaphores less) first ∙ living_gone queues semaphores less (with_held more row) (living queues semaphores more rows) gone ∙ rest.objects ∙ sym (living_gone queues semaphores less row rows after);
      charges = λ c. both kept _ _ _ _ first (settled_kept (is_kept queues semaphores more) row rows c before) ∙ settled_gone kept (with_held more row) (living queues semaphores more rows) (settled (is_kept queues semaphores more) rows c) gone ∙ ap (λ (o : Object). settled kept (living queues semaphores more rows) (with_less (settled (is_kept queues semaphores more) rows c) o.creator.0 (with_held more row).bytes)) is.object ∙ ap (λ n. settled kept (living queues semaphores more rows) (with_less (settled (is_kept queues semaphores more) rows c) row.object.creator.0 n)) is.bytes ∙ ap (settled kept (living queues semaphores more rows)) (settled_less (is_kept queues semaphores more) rows c row.object.creator.0 row.bytes) ∙ rest.charges (with_less c row.object.creator.0 row.bytes) ∙ sym (settled_gone kept row rows c after);
    }
left_by_tests queues semaphores less more row rows false true narrower before after rest = let no : true ≡ false = sym (kept_before queues semaphores less more row narrower after) ∙ before in absurd cc
left_by_tests queues semaphores less more row rows false false narrower before after rest =
    let kept = is_kept queues semaphores less in
    let first = living_gone queues semaphores more row rows before in
    record {
      objects = ap (living queues semaphores less) first ∙ rest.objects ∙ sym (living_gone queues semaphores less row rows after);
      charges = λ c. both kept _ _ _ _ first (settled_gone (is_kept queues semaphores more) row rows c before) ∙ rest.charges (with_less c row.object.creator.0 row.bytes) ∙ sym (settled_gone kept row rows c after);
    }

left : (queues semaphores : Directory) (less more : List Row) (rows : List ObjectRow) → Narrower less more → Left queues semaphores less more rows
left queues semaphores less more [] narrower = record { objects = refl; charges = λ c. refl }
left queues semaphores less more (row ∷ rows) narrower = left_by_tests queues semaphores less more row rows (is_kept queues semaphores more row) (is_kept queues semaphores less row) narrower refl refl (left queues semaphores less more rows narrower)

-- first more and then fewer descriptions are held
pub narrowed : (t : TablesView) (less more : List Row) → Narrower less more → with_rows (with_rows t more) less ≡ with_rows t less
narrowed t less more narrower =
    let is = left t.queues t.semaphores less more t.objects narrower in
    rw (is.objects, is.charges t.charges) refl

-- ---- a filter narrows

open_by_test : (p : Row → Bool) (o : ℕ) (row : Row) (rows : List Row) (b : Bool) → list_any (is_to o) (cond b (row ∷ filter p rows) (filter p rows)) ≡ true → (list_any (is_to o) (filter p rows) ≡ true → list_any (is_to o) rows ≡ true) → (is_to o row || list_any (is_to o) rows) ≡ true
open_by_test p o row rows true e rest = at (is_to o row) e where
  at : (a : Bool) → (a || list_any (is_to o) (filter p rows)) ≡ true → (a || list_any (is_to o) rows) ≡ true
  at true k = refl
  at false k = rest k
open_by_test p o row rows false e rest = or_right (is_to o row) (list_any (is_to o) rows) (rest e)

open_before : (p : Row → Bool) (o : ℕ) (rows : List Row) → is_open (filter p rows) o ≡ true → is_open rows o ≡ true
open_before p o [] e = e
open_before p o (row ∷ rows) e = open_by_test p o row rows (p row) e (open_before p o rows)

held_by_test : (q p : Row → Bool) (row : Row) (rows : List Row) (a b : Bool) → q row ≡ a → is_some (find q (cond b (row ∷ filter p rows) (filter p rows))) ≡ true → (is_some (find q (filter p rows)) ≡ true → is_some (find q rows) ≡ true) → is_some (cond a (Some row) (find q rows)) ≡ true
held_by_test q p row rows true b is e rest = refl
held_by_test q p row rows false true is e rest = rest (rw is at e)
held_by_test q p row rows false false is e rest = rest e

held_before : (q p : Row → Bool) (rows : List Row) → is_some (find q (filter p rows)) ≡ true → is_some (find q rows) ≡ true
held_before q p [] e = e
held_before q p (row ∷ rows) e = held_by_test q p row rows (q row) (p row) refl e (held_before q p rows)

pub narrower_filtered : (p : Row → Bool) (rows : List Row) → Narrower (filter p rows) rows
narrower_filtered p rows = record { gives = λ o e. open_before p o rows e; held = λ d e. held_before (is_desc d) p rows e }
