-- Objects that stand at their numbers: what a look-up, a change, a push and a removal make of the list of their rows.
use Rattle.std.proofs.Common.{◌≡◌, Bool, true, false, cond, ℕ, zero, suc, ◌+◌, ◌≤◌, ◌<◌, List, [], ◌∷◌, ◌++◌, Option, Some, None, refl, sym, ap, ◌∙◌, arith, find, drop, length, option_map}
use Rattle.std.specs.List.{sum_by}
use Rattle.std.proofs.lemmas.Bool.Decides.{nat_tests}
use Rattle.std.proofs.lemmas.List.Elements.{filter_map-append}
use Rattle.std.proofs.lemmas.List.Sums.{sum_by-cons}
use Rattle.ipc_terms.specs.Lists.{changed, changed_first}
use Rattle.ipc_containers.specs.Slots.{at as slot_at, emptied, NoneBetween, IsNextFrom}
use Rattle.ipc_tables.specs.declared.rows.ObjectRow.{ObjectRow}
use Rattle.ipc_tables.specs.Objects.{is_number}
use Rattle.ipc_tables.specs.Standing.{rows_of, InPlace}

-- ---- a row is found

pub none_below : (o n : ℕ) (slots : List (Option ObjectRow)) → InPlace n slots → o < n → find (is_number o) (rows_of slots) ≡ None
none_below o n [] h below = refl
none_below o n (None ∷ slots) h below = none_below o (n + 1) slots h.1 (omega arith)
none_below o n (Some row ∷ slots) h below =
    let is : row.number ≡ n = h.0 in
    let apart : is_number o row ≡ false = grind (arith, nat_tests) in
    rw apart (none_below o (n + 1) slots h.1 (omega arith))

-- the slot's number is asked for
asked : (o n : ℕ) (row : ObjectRow) → row.number ≡ n → o ≡ n + 0 → is_number o row ≡ true
asked o n row is here = grind (arith, nat_tests)

-- or a later one
later : (o n i : ℕ) (row : ObjectRow) → row.number ≡ n → o ≡ n + suc i → is_number o row ≡ false
later o n i row is above = grind (arith, nat_tests)

pub found : (o n i : ℕ) (slots : List (Option ObjectRow)) → InPlace n slots → o ≡ n + i → slot_at slots i ≡ find (is_number o) (rows_of slots)
found o n i [] h is = refl
found o n zero (None ∷ slots) h is = sym (none_below o (n + 1) slots h.1 (omega arith))
found o n (suc i) (None ∷ slots) h is = found o (n + 1) i slots h.1 (omega arith)
found o n zero (Some row ∷ slots) h is = rw (asked o n row h.0 is) refl
found o n (suc i) (Some row ∷ slots) h is = rw (later o n i row h.0 is) (found o (n + 1) i slots h.1 (omega arith))

-- a row that is found has the number
pub found_number : (o n i : ℕ) (row : ObjectRow) (slots : List (Option ObjectRow)) → InPlace n slots → o ≡ n + i → slot_at slots i ≡ Some row → row.number ≡ o
found_number o n i row [] h is e = cc
found_number o n zero row (None ∷ slots) h is e = absurd cc
found_number o n zero row (Some first ∷ slots) h is e =
    let same : first ≡ row = cc in
    let number : first.number ≡ n = h.0 in
    ap (λ (r : ObjectRow). r.number) (sym same) ∙ number ∙ omega arith
found_number o n (suc i) row (slot ∷ slots) h is e = found_number o (n + 1) i row slots h.1 (omega arith) e

-- ---- a row is set

none_by_test : (o : ℕ) (f : ObjectRow → ObjectRow) (row : ObjectRow) (rows : List ObjectRow) (b : Bool) → cond b (Some row) (find (is_number o) rows) ≡ None → (find (is_number o) rows ≡ None → changed_first (is_number o) f rows ≡ rows) → cond b (f row ∷ rows) (row ∷ changed_first (is_number o) f rows) ≡ row ∷ rows
none_by_test o f row rows true e rest = cc
none_by_test o f row rows false e rest = ap (λ rs. row ∷ rs) (rest e)

pub none_changed : (o : ℕ) (f : ObjectRow → ObjectRow) (rows : List ObjectRow) → find (is_number o) rows ≡ None → changed_first (is_number o) f rows ≡ rows
none_changed o f [] e = refl
none_changed o f (row ∷ rows) e = none_by_test o f row rows (is_number o row) e (none_changed o f rows)

-- to change a slot is to change the row that has its number
pub slot_changed : (o n i : ℕ) (f : ObjectRow → ObjectRow) (slots : List (Option ObjectRow)) → InPlace n slots → o ≡ n + i → rows_of (changed (option_map f) slots i) ≡ changed_first (is_number o) f (rows_of slots)
slot_changed o n i f [] h is = refl
slot_changed o n zero f (None ∷ slots) h is = sym (none_changed o f (rows_of slots) (none_below o (n + 1) slots h.1 (omega arith)))
slot_changed o n (suc i) f (None ∷ slots) h is = slot_changed o (n + 1) i f slots h.1 (omega arith)
slot_changed o n zero f (Some row ∷ slots) h is = rw (asked o n row h.0 is) refl
slot_changed o n (suc i) f (Some row ∷ slots) h is = rw (later o n i row h.0 is) (ap (λ rows. row ∷ rows) (slot_changed o (n + 1) i f slots h.1 (omega arith)))

-- what is set there is a change of what stood there
pub set_changed : (f : ObjectRow → ObjectRow) (row : ObjectRow) (slots : List (Option ObjectRow)) (i : ℕ) → slot_at slots i ≡ Some row → changed (λ slot. Some (f row)) slots i ≡ changed (option_map f) slots i
set_changed f row [] i e = refl
set_changed f row (None ∷ slots) zero e = absurd cc
set_changed f row (Some first ∷ slots) zero e = let same : first ≡ row = cc in ap (λ (r : ObjectRow). Some (f r) ∷ slots) (sym same)
set_changed f row (slot ∷ slots) (suc i) e = ap (λ rest. slot ∷ rest) (set_changed f row slots i e)

-- the row that stands there already
pub set_same : (row : ObjectRow) (slots : List (Option ObjectRow)) (i : ℕ) → slot_at slots i ≡ Some row → changed (λ slot. Some row) slots i ≡ slots
set_same row [] i e = refl
set_same row (slot ∷ slots) zero e = let same : slot ≡ Some row = e in ap (λ s. s ∷ slots) (sym same)
set_same row (slot ∷ slots) (suc i) e = ap (λ rest. slot ∷ rest) (set_same row slots i e)

pub set_numbered : (n i : ℕ) (row next : ObjectRow) (slots : List (Option ObjectRow)) → slot_at slots i ≡ Some row → next.number ≡ row.number → InPlace n slots → InPlace n (changed (λ slot. Some next) slots i)
set_numbered n i row next [] e number h = h
set_numbered n zero row next (None ∷ slots) e number h = absurd cc
set_numbered n zero row next (Some first ∷ slots) e number h = let same : first ≡ row = cc in (number ∙ ap (λ (r : ObjectRow). r.number) (sym same) ∙ h.0, h.1)
set_numbered n (suc i) row next (slot ∷ slots) e number h = (h.0, set_numbered (n + 1) i row next slots e number h.1)

-- ---- sums over the rows

-- what a slot adds to a sum
abbrev pub weight_of : (ObjectRow → ℕ) → Option ObjectRow → ℕ
weight_of weight None = 0
weight_of weight (Some row) = weight row

sum_slot : (weight : ObjectRow → ℕ) (slot : Option ObjectRow) (slots : List (Option ObjectRow)) → sum_by weight (rows_of (slot ∷ slots)) ≡ weight_of weight slot + sum_by weight (rows_of slots)
sum_slot weight None slots = omega arith
sum_slot weight (Some row) slots = sum_by-cons weight row (rows_of slots)

pub sum_changed : (weight : ObjectRow → ℕ) (next : Option ObjectRow) (row : ObjectRow) (slots : List (Option ObjectRow)) (i : ℕ) → slot_at slots i ≡ Some row → sum_by weight (rows_of (changed (λ slot. next) slots i)) + weight row ≡ sum_by weight (rows_of slots) + weight_of weight next
sum_changed weight next row [] i e = absurd cc
sum_changed weight next row (slot ∷ slots) zero e =
    let here : weight_of weight slot ≡ weight row = ap (weight_of weight) e in
    let before = sum_slot weight slot slots in
    let after = sum_slot weight next slots in
    omega arith
sum_changed weight next row (slot ∷ slots) (suc i) e =
    let rest = sum_changed weight next row slots i e in
    let before = sum_slot weight slot slots in
    let after = sum_slot weight slot (changed (λ s. next) slots i) in
    omega arith

-- ---- a row more

pub rows_last : (row : ObjectRow) (slots : List (Option ObjectRow)) → rows_of (slots ++ Some row ∷ []) ≡ rows_of slots ++ row ∷ []
rows_last row slots = filter_map-append (λ slot. slot) slots (Some row ∷ [])

pub numbered_last : (n : ℕ) (row : ObjectRow) (slots : List (Option ObjectRow)) → InPlace n slots → row.number ≡ n + length slots → InPlace n (slots ++ Some row ∷ [])
numbered_last n row [] h is = (omega arith, tt)
numbered_last n row (slot ∷ slots) h is = (h.0, numbered_last (n + 1) row slots h.1 (omega arith))

-- no more objects than numbers
pub count_below : (slots : List (Option ObjectRow)) → length (rows_of slots) ≤ length slots
count_below [] = omega arith
count_below (None ∷ slots) = let rest = count_below slots in omega arith
count_below (Some row ∷ slots) = let rest = count_below slots in omega arith

-- ---- a row less

pub emptied_numbered : (n i : ℕ) (slots : List (Option ObjectRow)) → InPlace n slots → InPlace n (changed emptied slots i)
emptied_numbered n i [] h = h
emptied_numbered n zero (slot ∷ slots) h = (tt, h.1)
emptied_numbered n (suc i) (slot ∷ slots) h = (h.0, emptied_numbered (n + 1) i slots h.1)

-- where there is none, to change it changes nothing
pub unchanged : (f : Option ObjectRow → Option ObjectRow) (slots : List (Option ObjectRow)) (i : ℕ) → f None ≡ None → slot_at slots i ≡ None → changed f slots i ≡ slots
unchanged f [] i none e = refl
unchanged f (slot ∷ slots) zero none e = let same : slot ≡ None = e in ap (λ s. s ∷ slots) (ap f same ∙ none ∙ sym same)
unchanged f (slot ∷ slots) (suc i) none e = ap (λ rest. slot ∷ rest) (unchanged f slots i none e)

-- ---- the rows from a slot on

-- those from the next that is filled
pub rows_next : (slots : List (Option ObjectRow)) (from next : ℕ) (row : ObjectRow) → from ≤ next → slot_at slots next ≡ Some row → NoneBetween slots from next → rows_of (drop from slots) ≡ row ∷ rows_of (drop (suc next) slots)
rows_next [] from next row le e none = absurd cc
rows_next (slot ∷ slots) zero zero row le e none = ap (λ s. rows_of (s ∷ slots)) e
rows_next (slot ∷ slots) zero (suc next) row le e none =
    let empty : slot ≡ None = none 0 (omega arith) (omega arith) in
    ap (λ s. rows_of (s ∷ slots)) empty ∙ rows_next slots 0 next row (omega arith) e (λ n above lt. none (suc n) (omega arith) (omega arith))
rows_next (slot ∷ slots) (suc from) zero row le e none = absurd (omega arith)
rows_next (slot ∷ slots) (suc from) (suc next) row le e none = rows_next slots from next row (omega arith) e (λ n above lt. none (suc n) (omega arith) (omega arith))

-- where none is filled there are none
pub rows_none : (slots : List (Option ObjectRow)) (from : ℕ) → ((n : ℕ) → from ≤ n → slot_at slots n ≡ None) → rows_of (drop from slots) ≡ []
rows_none [] zero none = refl
rows_none [] (suc from) none = refl
rows_none (slot ∷ slots) zero none =
    let empty : slot ≡ None = none 0 (omega arith) in
    ap (λ s. rows_of (s ∷ slots)) empty ∙ rows_none slots 0 (λ n above. none (suc n) (omega arith))
rows_none (slot ∷ slots) (suc from) none = rows_none slots from (λ n above. none (suc n) (omega arith))

-- a sum over those from a slot on is what the next adds, and the sum over those behind it
pub sum_next : (weight : ObjectRow → ℕ) (slots : List (Option ObjectRow)) (from next after : ℕ) (row : ObjectRow) → IsNextFrom slots from (Some next) → slot_at slots next ≡ Some row → after ≡ next + 1 → sum_by weight (rows_of (drop from slots)) ≡ weight row + sum_by weight (rows_of (drop after slots))
sum_next weight slots from next after row is e behind =
    let same : suc next ≡ after = omega arith in
    ap (sum_by weight) (rows_next slots from next row is.0 e is.2 ∙ ap (λ n. row ∷ rows_of (drop n slots)) same) ∙ sum_by-cons weight row (rows_of (drop after slots))

-- and nothing, where there is no next
pub sum_none : (weight : ObjectRow → ℕ) (slots : List (Option ObjectRow)) (from : ℕ) → IsNextFrom slots from None → sum_by weight (rows_of (drop from slots)) ≡ 0
sum_none weight slots from none = ap (sum_by weight) (rows_none slots from none)
