-- Where all objects but one are kept, to remove that one is to keep the others; and what is given back then.
use Rattle.std.proofs.Common.{◌≡◌, ◌≢◌, Bool, true, false, cond, ℕ, zero, suc, ◌+◌, ◌≤◌, ◌<◌, List, [], ◌∷◌, Option, Some, None, refl, sym, ap, ◌∙◌, arith, find, filter}
use Rattle.std.specs.List.{AllByRecursion}
use Rattle.std.proofs.lemmas.Bool.{eq-eqb}
use Rattle.std.proofs.lemmas.Bool.Decides.{nat_tests}
use Rattle.ipc_descr.specs.declared.charges.Charge.{Charge}
use Rattle.ipc_descr.specs.Charges.{used_of, with_less}
use Rattle.ipc_terms.specs.Lists.{changed}
use Rattle.ipc_containers.specs.Slots.{at as slot_at, emptied}
use Rattle.ipc_tables.specs.declared.rows.ObjectRow.{ObjectRow}
use Rattle.ipc_tables.specs.Objects.{is_number}
use Rattle.ipc_tables.specs.Charging.{taken_by, taken, Covered, settled}
use Rattle.ipc_tables.specs.Standing.{rows_of, InPlace, OthersKept}
use Rattle.ipc_tables.proofs.Numbering.{sum_changed}

-- ---- none is to be removed

abbrev pub AllKept : (ObjectRow → Bool) → List ObjectRow → Type 0
AllKept keep rows = AllByRecursion (λ row. keep row ≡ true) rows

pub filter_all : (keep : ObjectRow → Bool) (rows : List ObjectRow) → AllKept keep rows → filter keep rows ≡ rows
filter_all keep [] all = refl
filter_all keep (row ∷ rows) all = rw all.0 (ap (λ rs. row ∷ rs) (filter_all keep rows all.1))

pub settled_gone : (keep : ObjectRow → Bool) (row : ObjectRow) (rows : List ObjectRow) (charges : List Charge) → keep row ≡ false → settled keep (row ∷ rows) charges ≡ settled keep rows (with_less charges row.object.creator.0 row.bytes)
settled_gone keep row rows charges e = ap (λ b. settled keep rows (cond b charges (with_less charges row.object.creator.0 row.bytes))) e

pub settled_kept : (keep : ObjectRow → Bool) (row : ObjectRow) (rows : List ObjectRow) (charges : List Charge) → keep row ≡ true → settled keep (row ∷ rows) charges ≡ settled keep rows charges
settled_kept keep row rows charges e = ap (λ b. settled keep rows (cond b charges (with_less charges row.object.creator.0 row.bytes))) e

pub settled_all : (keep : ObjectRow → Bool) (rows : List ObjectRow) (charges : List Charge) → AllKept keep rows → settled keep rows charges ≡ charges
settled_all keep [] charges all = refl
settled_all keep (row ∷ rows) charges all = settled_kept keep row rows charges all.0 ∙ settled_all keep rows charges all.1

-- all are, where none was touched
pub untouched : (keep : ObjectRow → Bool) (rows : List ObjectRow) → OthersKept None keep rows → AllKept keep rows
untouched keep [] all = tt
untouched keep (row ∷ rows) all = (all.0 (λ e. cc), untouched keep rows all.1)

-- where the one that was touched is kept
kept_by_test : (keep : ObjectRow → Bool) (o : ℕ) (row : ObjectRow) (b : Bool) → is_number o row ≡ b → (row.number ≡ o → keep row ≡ true) → (Some o ≢ Some row.number → keep row ≡ true) → keep row ≡ true
kept_by_test keep o row true is here other = here (grind (arith, nat_tests))
kept_by_test keep o row false is here other = other (λ e. let same : o ≡ row.number = cc in grind (arith, nat_tests))

pub touched_kept : (keep : ObjectRow → Bool) (o : ℕ) (rows : List ObjectRow) → ((row : ObjectRow) → row.number ≡ o → keep row ≡ true) → OthersKept (Some o) keep rows → AllKept keep rows
touched_kept keep o [] here all = tt
touched_kept keep o (row ∷ rows) here all = (kept_by_test keep o row (is_number o row) refl (here row) all.0, touched_kept keep o rows here all.1)

-- and where it isn't there
absent_by_test : (keep : ObjectRow → Bool) (o : ℕ) (row : ObjectRow) (rows : List ObjectRow) (b : Bool) → is_number o row ≡ b → cond b (Some row) (find (is_number o) rows) ≡ None → OthersKept (Some o) keep (row ∷ rows) → (find (is_number o) rows ≡ None → AllKept keep rows) → AllKept keep (row ∷ rows)
absent_by_test keep o row rows true is e all rest = cc
absent_by_test keep o row rows false is e all rest = (all.0 (λ k. let same : o ≡ row.number = cc in grind (arith, nat_tests)), rest e)

pub touched_absent : (keep : ObjectRow → Bool) (o : ℕ) (rows : List ObjectRow) → find (is_number o) rows ≡ None → OthersKept (Some o) keep rows → AllKept keep rows
touched_absent keep o [] e all = tt
touched_absent keep o (row ∷ rows) e all = absent_by_test keep o row rows (is_number o row) refl e all (λ k. touched_absent keep o rows k all.1)

-- ---- one is removed

all_above : (keep : ObjectRow → Bool) (o n : ℕ) (slots : List (Option ObjectRow)) → InPlace n slots → o < n → OthersKept (Some o) keep (rows_of slots) → AllKept keep (rows_of slots)
all_above keep o n [] h above all = tt
all_above keep o n (None ∷ slots) h above all = all_above keep o (n + 1) slots h.1 (omega arith) all
all_above keep o n (Some row ∷ slots) h above all =
    let is : row.number ≡ n = h.0 in
    (all.0 (λ e. let same : o ≡ row.number = cc in omega arith), all_above keep o (n + 1) slots h.1 (omega arith) all.1)

-- what removing the row leaves, and gives back
pub record Removed (keep : ObjectRow → Bool) (i : ℕ) (row : ObjectRow) (slots : List (Option ObjectRow)) : Type 0 where
  pub rows : rows_of (changed emptied slots i) ≡ filter keep (rows_of slots)
  pub charges : (c : List Charge) → with_less c row.object.creator.0 row.bytes ≡ settled keep (rows_of slots) c

removed_first : (keep : ObjectRow → Bool) (o n : ℕ) (row first : ObjectRow) (slots : List (Option ObjectRow)) → InPlace n (Some first ∷ slots) → o ≡ n + 0 → OthersKept (Some o) keep (rows_of (Some first ∷ slots)) → keep row ≡ false → first ≡ row → Removed keep 0 row (Some first ∷ slots)
removed_first keep o n row first slots h is all dead here =
    let gone : keep first ≡ false = ap keep here ∙ dead in
    let kept = all_above keep o (n + 1) slots h.1 (omega arith) all.1 in
    record {
      rows = rw gone (sym (filter_all keep (rows_of slots) kept));
      charges = λ c. ap (λ (r : ObjectRow). with_less c r.object.creator.0 r.bytes) (sym here) ∙ sym (settled_gone keep first (rows_of slots) c gone ∙ settled_all keep (rows_of slots) (with_less c first.object.creator.0 first.bytes) kept);
    }

removed_later : (keep : ObjectRow → Bool) (o n i : ℕ) (row first : ObjectRow) (slots : List (Option ObjectRow)) → InPlace n (Some first ∷ slots) → o ≡ n + suc i → OthersKept (Some o) keep (rows_of (Some first ∷ slots)) → Removed keep i row slots → Removed keep (suc i) row (Some first ∷ slots)
removed_later keep o n i row first slots h is all rest =
    let number : first.number ≡ n = h.0 in
    let kept : keep first ≡ true = all.0 (λ e. let same : o ≡ first.number = cc in omega arith) in
    record {
      rows = rw kept (ap (λ rows. first ∷ rows) rest.rows);
      charges = λ c. rest.charges c ∙ sym (settled_kept keep first (rows_of slots) c kept);
    }

pub removed : (keep : ObjectRow → Bool) (o n i : ℕ) (row : ObjectRow) (slots : List (Option ObjectRow)) → InPlace n slots → o ≡ n + i → OthersKept (Some o) keep (rows_of slots) → keep row ≡ false → slot_at slots i ≡ Some row → Removed keep i row slots
removed keep o n i row [] h is all dead e = cc
removed keep o n zero row (None ∷ slots) h is all dead e = absurd cc
removed keep o n (suc i) row (None ∷ slots) h is all dead e =
    let rest = removed keep o (n + 1) i row slots h.1 (omega arith) all dead e in
    record { rows = rest.rows; charges = rest.charges }
removed keep o n zero row (Some first ∷ slots) h is all dead e = removed_first keep o n row first slots h is all dead cc
removed keep o n (suc i) row (Some first ∷ slots) h is all dead e = removed_later keep o n i row first slots h is all (removed keep o (n + 1) i row slots h.1 (omega arith) all.1 dead e)

-- its creator is charged with what it gives back
pub removed_covered : (row : ObjectRow) (slots : List (Option ObjectRow)) (i : ℕ) (charges : List Charge) → slot_at slots i ≡ Some row → Covered charges (rows_of slots) → row.bytes ≤ used_of charges row.object.creator.0
removed_covered row slots i charges e covered =
    let u = row.object.creator.0 in
    let all : taken u (rows_of slots) ≤ used_of charges u = covered u in
    let own : taken_by u row ≡ row.bytes = ap (λ b. cond b row.bytes 0) (eq-eqb u u refl) in
    let sums : taken u (rows_of (changed emptied slots i)) + taken_by u row ≡ taken u (rows_of slots) + 0 = sum_changed (taken_by u) None row slots i e in
    omega arith
