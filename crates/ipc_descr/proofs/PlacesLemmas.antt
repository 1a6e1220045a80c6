-- What happens to the rows when the slab changes at one key.
use Rattle.std.proofs.Common.{◌≡◌, ◌≢◌, Bool, true, false, cond, ℕ, zero, suc, ◌+◌, ◌≤◌, ◌<◌, ◌==◌, List, [], ◌∷◌, ◌++◌, Option, Some, None, refl, sym, ap, subst, ◌∙◌, arith, find, length, if◌then◌else◌}
use Rattle.std.specs.Prelude.{⊤}
use Rattle.std.specs.Option.{option_and_then}
use Rattle.std.specs.BTreeMap.{is_at}
use Rattle.std.specs.Ordering.{nat_cmp}
use Rattle.std.proofs.lemmas.Bool.Decides.{nat_tests}
use Rattle.ipc_terms.specs.Lists.{changed}
use Rattle.ipc_containers.specs.Slots.{at, emptied}
use Rattle.ipc_descr.specs.declared.row.Row.{Row}
use Rattle.ipc_descr.specs.Descriptions.{is_desc, is_of, if_of, row_of, without_desc, Rise}
use Rattle.ipc_descr.specs.Places.{if_desc, row_at, row_numbered, with_row, rows_of}
use Rattle.ipc_descr.proofs.AmongOthers.{Others, and_false, filter_others}

-- to find a number is to ask for equality
pub is_at_number : (d q : ℕ) → is_at (nat_cmp d) q ≡ (d == q)
is_at_number d q = grind (arith, nat_tests)

-- ---- what stands at a key

-- the row that stands there, if one does, is description d
abbrev pub IsOnly : ℕ → Option Row → Type 0
IsOnly d None = ⊤
IsOnly d (Some row) = row.desc.0 ≡ d

only_by_test : (d : ℕ) (row : Row) (b : Bool) → is_desc d row ≡ b → IsOnly d (if b then Some row else None)
only_by_test d row true test = let n : row.desc.0 ≡ d = grind (arith, nat_tests) in n
only_by_test d row false test = tt

pub only : (d : ℕ) (o : Option Row) → IsOnly d (option_and_then (if_desc d) o)
only d None = tt
only d (Some row) = only_by_test d row (is_desc d row) refl

pub only_slot : (stored : ℕ → Option Row) (d : ℕ) (slot : Option ℕ) → IsOnly d (option_and_then (row_at stored d) slot)
only_slot stored d None = tt
only_slot stored d (Some k) = only d (stored k)

pub only_same : (d : ℕ) (o : Option Row) → IsOnly d o → option_and_then (if_desc d) o ≡ o
only_same d None is = refl
only_same d (Some row) is = let n : row.desc.0 ≡ d = is in let test : is_desc d row ≡ true = grind (arith, nat_tests) in rw test refl

none_apart : (m d : ℕ) (o : Option Row) → m ≢ d → IsOnly d o → option_and_then (if_desc m) o ≡ None
none_apart m d None apart is = refl
none_apart m d (Some row) apart is = let n : row.desc.0 ≡ d = is in let test : is_desc m row ≡ false = grind (arith, nat_tests) in rw test refl

-- for every number but d, both slabs have the same at each key
abbrev pub DifferAt : (ℕ → Option Row) → (ℕ → Option Row) → ℕ → Type 0
DifferAt stored next d = (m q : ℕ) → m ≢ d → row_at next m q ≡ row_at stored m q

differ_by_test : (stored next : ℕ → Option Row) (d k m q : ℕ) (b : Bool) → (q == k) ≡ b → IsOnly d (stored k) → IsOnly d (next k) → ((q : ℕ) → q ≢ k → next q ≡ stored q) → m ≢ d → row_at next m q ≡ row_at stored m q
differ_by_test stored next d k m q true test was now others apart =
    let same : q ≡ k = grind (arith, nat_tests) in
    rw same (none_apart m d (next k) apart now ∙ sym (none_apart m d (stored k) apart was))
differ_by_test stored next d k m q false test was now others apart = ap (option_and_then (if_desc m)) (others q (λ (same : q ≡ k). grind (arith, nat_tests)))

-- so it is where only the row of d goes, comes or changes
pub differ_at : (stored next : ℕ → Option Row) (d k : ℕ) → IsOnly d (stored k) → IsOnly d (next k) → ((q : ℕ) → q ≢ k → next q ≡ stored q) → DifferAt stored next d
differ_at stored next d k was now others m q apart = differ_by_test stored next d k m q (q == k) refl was now others apart

-- ---- the numbers of the rows rise

rise_from : (low from high : ℕ) (rows : List Row) → low ≤ from → Rise from high rows → Rise low high rows
rise_from low from high [] l rise = let m : from ≤ high = rise in omega arith
rise_from low from high (row ∷ rows) l rise = let m : from ≤ row.desc.0 = rise.0 in (omega arith, rise.1)

rise_with : (d high : ℕ) (o : Option Row) (rows : List Row) → IsOnly d o → Rise (d + 1) high rows → Rise d high (with_row o rows)
rise_with d high None rows is rise = rise_from d (d + 1) high rows (omega arith) rise
rise_with d high (Some row) rows is rise = let n : row.desc.0 ≡ d = is in (omega arith, subst (λ m. Rise (m + 1) high rows) (sym n) rise)

pub rise : (stored : ℕ → Option Row) (n high : ℕ) (slots : List (Option ℕ)) → n + length slots ≡ high → Rise n high (rows_of stored n slots)
rise stored n high [] e = omega arith
rise stored n high (slot ∷ slots) e = rise_with n high (option_and_then (row_at stored n) slot) _ (only_slot stored n slot) (rise stored (n + 1) high slots (omega arith))

others_rise : (d low high : ℕ) (rows : List Row) → d < low → Rise low high rows → Others d rows
others_rise d low high [] below rise = tt
others_rise d low high (row ∷ rows) below rise = let l : low ≤ row.desc.0 = rise.0 in (grind (arith, nat_tests), others_rise d (row.desc.0 + 1) high rows (omega arith) rise.1)

others_above : (stored : ℕ → Option Row) (d n : ℕ) (slots : List (Option ℕ)) → d < n → Others d (rows_of stored n slots)
others_above stored d n slots below = others_rise d n (n + length slots) _ below (rise stored n _ slots refl)

-- ---- look-up

find_none : (d : ℕ) (rows : List Row) → Others d rows → find (is_desc d) rows ≡ None
find_none d [] h = refl
find_none d (row ∷ rows) h = rw h.0 (find_none d rows h.1)

find_here : (d : ℕ) (o : Option Row) (rows : List Row) → IsOnly d o → Others d rows → find (is_desc d) (with_row o rows) ≡ o
find_here d None rows is others = find_none d rows others
find_here d (Some row) rows is others = let n : row.desc.0 ≡ d = is in let test : is_desc d row ≡ true = grind (arith, nat_tests) in rw test refl

find_later : (d n : ℕ) (o : Option Row) (rows : List Row) → d ≢ n → IsOnly n o → find (is_desc d) (with_row o rows) ≡ find (is_desc d) rows
find_later d n None rows apart is = refl
find_later d n (Some row) rows apart is = let e : row.desc.0 ≡ n = is in let test : is_desc d row ≡ false = grind (arith, nat_tests) in rw test refl

found_from : (stored : ℕ → Option Row) (d n i : ℕ) (slots : List (Option ℕ)) → d ≡ n + i → find (is_desc d) (rows_of stored n slots) ≡ option_and_then (row_at stored d) (at slots i)
found_from stored d n i [] e = refl
found_from stored d n zero (slot ∷ slots) e =
    let same : n ≡ d = omega arith in
    rw same (find_here d (option_and_then (row_at stored d) slot) _ (only_slot stored d slot) (others_above stored d (d + 1) slots (omega arith)))
found_from stored d n (suc i) (slot ∷ slots) e =
    find_later d n (option_and_then (row_at stored n) slot) _ (λ (same : d ≡ n). omega arith) (only_slot stored n slot) ∙ found_from stored d (n + 1) i slots (omega arith)

-- the keys lead to each row
pub found : (stored : ℕ → Option Row) (slots : List (Option ℕ)) (d : ℕ) → find (is_desc d) (rows_of stored 0 slots) ≡ row_numbered stored slots d
found stored slots d = found_from stored d 0 d slots (omega arith)

pub found_of : (stored : ℕ → Option Row) (slots : List (Option ℕ)) (s d : ℕ) → row_of (rows_of stored 0 slots) s d ≡ option_and_then (if_of s) (row_numbered stored slots d)
found_of stored slots s d = ap (option_and_then (if_of s)) (found stored slots d)

-- ---- a row more

differ_slot : (stored next : ℕ → Option Row) (d m : ℕ) (slot : Option ℕ) → m ≢ d → DifferAt stored next d → option_and_then (row_at next m) slot ≡ option_and_then (row_at stored m) slot
differ_slot stored next d m None apart differ = refl
differ_slot stored next d m (Some q) apart differ = differ m q apart

rows_same : (stored next : ℕ → Option Row) (d n : ℕ) (slots : List (Option ℕ)) → ((m : ℕ) → n ≤ m → m < n + length slots → m ≢ d) → DifferAt stored next d → rows_of next n slots ≡ rows_of stored n slots
rows_same stored next d n [] apart differ = refl
rows_same stored next d n (slot ∷ slots) apart differ =
    rw (differ_slot stored next d n slot (apart n (omega arith) (omega arith)) differ, rows_same stored next d (n + 1) slots (λ (m : ℕ) (low : n + 1 ≤ m) (high : m < (n + 1) + length slots). apart m (omega arith) (omega arith)) differ) refl

with_append : (o : Option Row) (before after : List Row) → with_row o (before ++ after) ≡ with_row o before ++ after
with_append None before after = refl
with_append (Some row) before after = refl

rows_last : (stored : ℕ → Option Row) (n last k : ℕ) (slots : List (Option ℕ)) → n + length slots ≡ last → rows_of stored n (slots ++ Some k ∷ []) ≡ rows_of stored n slots ++ with_row (row_at stored last k) []
rows_last stored n last k [] e = let same : n ≡ last = omega arith in rw same refl
rows_last stored n last k (slot ∷ slots) e =
    ap (with_row (option_and_then (row_at stored n) slot)) (rows_last stored (n + 1) last k slots (omega arith)) ∙ with_append (option_and_then (row_at stored n) slot) _ _

pub rows_pushed : (stored next : ℕ → Option Row) (k : ℕ) (row : Row) (slots : List (Option ℕ)) → stored k ≡ None → next k ≡ Some row → ((q : ℕ) → q ≢ k → next q ≡ stored q) → row.desc.0 ≡ length slots → rows_of next 0 (slots ++ Some k ∷ []) ≡ rows_of stored 0 slots ++ row ∷ []
rows_pushed stored next k row slots vacant here others n =
    let d = length slots in
    let differ = differ_at stored next d k (rw vacant tt) (rw here n) others in
    let last : row_at next d k ≡ Some row = ap (option_and_then (if_desc d)) here ∙ only_same d (Some row) n in
    rows_last next 0 d k slots (omega arith)
    ∙ ap (λ o. rows_of next 0 slots ++ with_row o []) last
    ∙ ap (λ rows. rows ++ row ∷ []) (rows_same stored next d 0 slots (λ (m : ℕ) (low : 0 ≤ m) (high : m < 0 + length slots) (same : m ≡ d). omega arith) differ)

-- ---- a row less, or another in its place

-- where the row of description d stands in both lists, for slabs that differ at it alone
pub record Split (stored next : ℕ → Option Row) (d k n : ℕ) (slots : List (Option ℕ)) : Type 0 where
  pub before : List Row
  pub after : List Row
  pub was : rows_of stored n slots ≡ before ++ with_row (row_at stored d k) after
  pub now : rows_of next n slots ≡ before ++ with_row (row_at next d k) after
  pub others_before : Others d before
  pub others_after : Others d after

split_here : (stored next : ℕ → Option Row) (d slot : ℕ) (slots : List (Option ℕ)) → DifferAt stored next d → Split stored next d slot d (Some slot ∷ slots)
split_here stored next d slot slots differ = record {
  before = [];
  after = rows_of stored (d + 1) slots;
  was = refl;
  now = ap (with_row (row_at next d slot)) (rows_same stored next d (d + 1) slots (λ (m : ℕ) (low : d + 1 ≤ m) (high : m < (d + 1) + length slots) (same : m ≡ d). omega arith) differ);
  others_before = tt;
  others_after = others_above stored d (d + 1) slots (omega arith);
}

others_with : (d n : ℕ) (o : Option Row) (rows : List Row) → d ≢ n → IsOnly n o → Others d rows → Others d (with_row o rows)
others_with d n None rows apart is others = others
others_with d n (Some row) rows apart is others = let e : row.desc.0 ≡ n = is in (grind (arith, nat_tests), others)

split_later : (stored next : ℕ → Option Row) (d k n : ℕ) (slot : Option ℕ) (slots : List (Option ℕ)) → n ≢ d → DifferAt stored next d → Split stored next d k (n + 1) slots → Split stored next d k n (slot ∷ slots)
split_later stored next d k n slot slots apart differ rest =
    let first = option_and_then (row_at stored n) slot in
    record {
      before = with_row first rest.before;
      after = rest.after;
      was = ap (with_row first) rest.was ∙ with_append first rest.before _;
      now = ap (λ o. with_row o (rows_of next (n + 1) slots)) (differ_slot stored next d n slot apart differ) ∙ ap (with_row first) rest.now ∙ with_append first rest.before _;
      others_before = others_with d n first rest.before (λ (same : d ≡ n). apart (sym same)) (only_slot stored n slot) rest.others_before;
      others_after = rest.others_after;
    }

split_from : (stored next : ℕ → Option Row) (d k n i : ℕ) (slots : List (Option ℕ)) → at slots i ≡ Some k → d ≡ n + i → DifferAt stored next d → Split stored next d k n slots
split_from stored next d k n i [] there e differ = cc
split_from stored next d k n zero (slot ∷ slots) there e differ =
    let same : n ≡ d = omega arith in
    subst (λ m. Split stored next d k m (slot ∷ slots)) (sym same) (subst (λ q. Split stored next d k d (q ∷ slots)) (sym there) (split_here stored next d k slots differ))
split_from stored next d k n (suc i) (slot ∷ slots) there e differ =
    split_later stored next d k n slot slots (λ (same : n ≡ d). omega arith) differ (split_from stored next d k (n + 1) i slots there (omega arith) differ)

pub split : (stored next : ℕ → Option Row) (d k : ℕ) (slots : List (Option ℕ)) → at slots d ≡ Some k → DifferAt stored next d → Split stored next d k 0 slots
split stored next d k slots there differ = split_from stored next d k 0 d slots there (omega arith) differ

emptied_from : (stored : ℕ → Option Row) (d k n i : ℕ) (slots : List (Option ℕ)) → at slots i ≡ Some k → d ≡ n + i → row_at stored d k ≡ None → rows_of stored n (changed emptied slots i) ≡ rows_of stored n slots
emptied_from stored d k n i [] there e gone = refl
emptied_from stored d k n zero (slot ∷ slots) there e gone =
    let same : d ≡ n = omega arith in
    sym (ap (λ o. with_row o (rows_of stored (n + 1) slots)) (ap (option_and_then (row_at stored n)) there ∙ subst (λ m. row_at stored m k ≡ None) same gone))
emptied_from stored d k n (suc i) (slot ∷ slots) there e gone =
    ap (with_row (option_and_then (row_at stored n) slot)) (emptied_from stored d k (n + 1) i slots there (omega arith) gone)

-- where no row stands at a key it may go
pub rows_emptied : (stored : ℕ → Option Row) (d k : ℕ) (slots : List (Option ℕ)) → at slots d ≡ Some k → stored k ≡ None → rows_of stored 0 (changed emptied slots d) ≡ rows_of stored 0 slots
rows_emptied stored d k slots there none = emptied_from stored d k 0 d slots there (omega arith) (ap (option_and_then (if_desc d)) none)

-- ---- where the session doesn't hold it

unheld_by_test : (s d : ℕ) (row : Row) (rows : List Row) (b c : Bool) → is_desc d row ≡ b → is_of s row ≡ c → row_of (row ∷ rows) s d ≡ None → (b ≡ true → without_desc rows s d ≡ rows) → (row_of rows s d ≡ None → without_desc rows s d ≡ rows) → without_desc (row ∷ rows) s d ≡ row ∷ rows
unheld_by_test s d row rows true true is of none here later = let e : row_of (row ∷ rows) s d ≡ Some row = rw (is, of) refl in cc
unheld_by_test s d row rows true false is of none here later = rw of (ap (λ rest. row ∷ rest) (here refl))
unheld_by_test s d row rows false c is of none here later = rw (and_false (is_of s row) (is_desc d row) is) (ap (λ rest. row ∷ rest) (later (ap (λ b. option_and_then (if_of s) (cond b (Some row) (find (is_desc d) rows))) (sym is) ∙ none)))

unheld : (low high s d : ℕ) (rows : List Row) → Rise low high rows → row_of rows s d ≡ None → without_desc rows s d ≡ rows
unheld low high s d [] rise none = refl
unheld low high s d (row ∷ rows) rise none =
    unheld_by_test s d row rows (is_desc d row) (is_of s row) refl refl none (λ (same : is_desc d row ≡ true). filter_others s d rows (others_rise d (row.desc.0 + 1) high rows (grind (arith, nat_tests)) rise.1)) (unheld (row.desc.0 + 1) high s d rows rise.1)

pub rows_unheld : (stored : ℕ → Option Row) (slots : List (Option ℕ)) (s d : ℕ) → row_of (rows_of stored 0 slots) s d ≡ None → without_desc (rows_of stored 0 slots) s d ≡ rows_of stored 0 slots
rows_unheld stored slots s d none = unheld 0 (length slots) s d _ (rise stored 0 _ slots (omega arith)) none
