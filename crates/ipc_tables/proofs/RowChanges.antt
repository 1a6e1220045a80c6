-- The objects after one of their rows was written in its slot.
use Rattle.std.proofs.Common.{◌≡◌, ℕ, List, Option, Some, None, refl, sym, ap, ◌∙◌, arith, length}
use Rattle.std.specs.Borrow.{MutBor}
use Rattle.std.specs.Option.{option_copied_mut}
use Rattle.std.specs.Prelude.{OnSome}
use Rattle.ipc_terms.specs.Lists.{changed, changed_first}
use Rattle.ipc_terms.proofs.Lists.{count_changed}
use Rattle.ipc_containers.specs.Slots.{at as slot_at}
use Rattle.ipc_tables.specs.declared.objects.Objects.{Objects}
use Rattle.ipc_tables.specs.declared.rows.Body.{Body}
use Rattle.ipc_tables.specs.declared.rows.ObjectRow.{ObjectRow}
use Rattle.ipc_tables.specs.Lending.{HasRows}
use Rattle.ipc_tables.specs.Objects.{is_number, is_queue, row_at}
use Rattle.ipc_tables.specs.Standing.{rows_in, rows_of, IsCounted}
use Rattle.ipc_tables.proofs.Numbering.{found, slot_changed, set_changed, set_same, none_changed}
use Rattle.ipc_tables.proofs.StandingLemmas.{Sets, counted_still}

pub row_there : (o : ℕ) (objects : Objects) (w : Option ObjectRow) → IsCounted objects → slot_at objects.rows o ≡ w → row_at (rows_in objects) o ≡ w
row_there o objects w is e = sym (found o 0 o objects.rows is.numbered (omega arith)) ∙ e

pub row_written : (o : ℕ) (change : ObjectRow → ObjectRow) (row : ObjectRow) (objects : Objects) (slots : List (Option ObjectRow)) → IsCounted objects → (change row).number ≡ row.number → is_queue (change row) ≡ is_queue row → Sets o row (change row) objects.rows slots → HasRows (changed_first (is_number o) change (rows_in objects)) objects (record objects { rows = slots })
row_written o change row objects slots is number kind set = record {
  counted = counted_still o row (change row) objects (record objects { rows = slots }) number kind set refl is;
  rows_are = ap rows_of (set.sets ∙ set_changed change row objects.rows o set.there) ∙ slot_changed o 0 o change objects.rows is.numbered (omega arith);
  created = ap length set.sets ∙ count_changed (λ slot. Some (change row)) objects.rows o;
  charges = refl;
}

-- a row that is there was written through what was lent of it
pub sets_row : (o : ℕ) (row : MutBor ObjectRow) (next : ObjectRow) (lent : Option (MutBor ObjectRow)) (slots after : List (Option ObjectRow)) → option_copied_mut lent ≡ slot_at slots o → lent ≡ Some row → OnSome lent (after ≡ changed (λ slot. Some next) slots o) → Sets o row.now next slots after
sets_row o row next lent slots after value is set = record { there = sym value ∙ ap option_copied_mut is; sets = rw is at set }

-- what stands in the row is another
pub sets_body : (o : ℕ) (row : ObjectRow) (body next : Body) (slots after : List (Option ObjectRow)) → Sets o row (record row { body = body }) slots after → body ≡ next → Sets o row (record row { body = next }) slots after
sets_body o row body next slots after set is = record { there = set.there; sets = set.sets ∙ ap (λ b. changed (λ slot. Some (record row { body = b })) slots o) is }

-- where the slots are as they were
pub slots_same : (objects : Objects) (slots : List (Option ObjectRow)) → IsCounted objects → slots ≡ objects.rows → HasRows (rows_in objects) objects (record objects { rows = slots })
slots_same objects slots is same = record {
  counted = record { numbered = rw same is.numbered; counted = rw same is.counted };
  rows_are = ap rows_of same;
  created = ap length same;
  charges = refl;
}

pub has_rows : (rows others : List ObjectRow) (objects after : Objects) → rows ≡ others → HasRows rows objects after → HasRows others objects after
has_rows rows others objects after same has = record { counted = has.counted; rows_are = has.rows_are ∙ same; created = has.created; charges = has.charges }

-- where there is no such object
pub row_absent : (o : ℕ) (change : ObjectRow → ObjectRow) (objects : Objects) (slots : List (Option ObjectRow)) → IsCounted objects → slot_at objects.rows o ≡ None → slots ≡ objects.rows → HasRows (changed_first (is_number o) change (rows_in objects)) objects (record objects { rows = slots })
row_absent o change objects slots is none same = has_rows _ _ objects _ (sym (none_changed o change (rows_in objects) (row_there o objects None is none))) (slots_same objects slots is same)

-- where what stands in the row is as it was
pub row_same : (o : ℕ) (row : ObjectRow) (objects : Objects) (slots : List (Option ObjectRow)) → IsCounted objects → Sets o row row objects.rows slots → HasRows (rows_in objects) objects (record objects { rows = slots })
row_same o row objects slots is set = slots_same objects slots is (set.sets ∙ set_same row objects.rows o set.there)
