-- What the sets and the counts have of a list of rows, and how a row more or less changes it.
use Rattle.std.proofs.Common.{◌≡◌, ◌≢◌, Bool, true, false, cond, not, ℕ, ◌+◌, ◌-◌, ◌≤◌, ◌<◌, ◌==◌, ◌&&◌, List, [], ◌∷◌, ◌++◌, Option, Some, None, refl, sym, ap, ◌∙◌, arith, find, filter, map, count_by, length, slice_get, if◌then◌else◌}
use Rattle.std.specs.List.{AllByRecursion}
use Rattle.std.specs.Option.{option_map}
use Rattle.std.proofs.lemmas.Bool.Decides.{nat_tests}
use Rattle.std.proofs.lemmas.List.Sums.{sum_by-cons, sum_by_push, count_by-le-length}
use Rattle.ipc_terms.specs.declared.ids.Desc.{Desc}
use Rattle.ipc_descr.specs.declared.row.Row.{Row}
use Rattle.ipc_terms.specs.Lists.{changed_first}
use Rattle.ipc_descr.specs.Descriptions.{number, is_desc, is_of, is_to, without_desc, without_session, with_nonblock, Rise}
use Rattle.ipc_descr.specs.Counting.{numbers_held, Gone}
use Rattle.ipc_descr.proofs.AmongOthers.{and_false}

-- ---- the questions

count_by_test : (b : Bool) (row : Row) (later : List Row) → length (map number (cond b (row ∷ later) later)) ≡ cond b 1 0 + length (map number later)
count_by_test true row later = omega arith
count_by_test false row later = omega arith

pub held_count : (rows : List Row) (s : ℕ) → length (numbers_held rows s) ≡ count_by (is_of s) rows
held_count [] s = refl
held_count (row ∷ rows) s = count_by_test (is_of s row) row _ ∙ ap (λ n. cond (is_of s row) 1 0 + n) (held_count rows s) ∙ sym (sum_by-cons (λ r. cond (is_of s r) 1 0) row rows)

first_by_test : (b : Bool) (row : Row) (later : List Row) (found : Option Row) → slice_get (map number later) 0 ≡ option_map number found → slice_get (map number (cond b (row ∷ later) later)) 0 ≡ option_map number (cond b (Some row) found)
first_by_test true row later found rest = refl
first_by_test false row later found rest = rest

pub held_first : (rows : List Row) (s : ℕ) → slice_get (numbers_held rows s) 0 ≡ option_map number (find (is_of s) rows)
held_first [] s = refl
held_first (row ∷ rows) s = first_by_test (is_of s row) row _ _ (held_first rows s)

desc_by_row : (o : Option Row) (r : Option ℕ) → r ≡ option_map number o → option_map (λ n. record { 0 = n }) r ≡ option_map (λ row. row.desc) o
desc_by_row None r e = ap (option_map (λ n. record { 0 = n })) e
desc_by_row (Some row) r e = ap (option_map (λ n. record { 0 = n })) e

-- the first number of a session is its first row's
pub first_desc : (rows : List Row) (s : ℕ) (numbers : List ℕ) (r : Option ℕ) → r ≡ slice_get numbers 0 → numbers ≡ numbers_held rows s → option_map (λ n. record { 0 = n }) r ≡ option_map (λ row. row.desc) (find (is_of s) rows)
first_desc rows s numbers r e f = desc_by_row (find (is_of s) rows) r (e ∙ ap (λ ns. slice_get ns 0) f ∙ held_first rows s)

-- ---- a row less

less_by_test : (a b : Bool) (s d : ℕ) (row : Row) (rows : List Row) → is_of s row ≡ a → is_desc d row ≡ b → numbers_held (without_desc rows s d) s ≡ filter (λ n. not (d == n)) (numbers_held rows s) → numbers_held (without_desc (row ∷ rows) s d) s ≡ filter (λ n. not (d == n)) (numbers_held (row ∷ rows) s)
less_by_test true true s d row rows of is rest = rw (of, is) rest
less_by_test true false s d row rows of is rest = rw (of, is, of) (ap (λ ns. number row ∷ ns) rest)
less_by_test false b s d row rows of is rest = rw (of, of) rest

pub held_less : (rows : List Row) (s d : ℕ) → numbers_held (without_desc rows s d) s ≡ filter (λ n. not (d == n)) (numbers_held rows s)
held_less [] s d = refl
held_less (row ∷ rows) s d = less_by_test (is_of s row) (is_desc d row) s d row rows refl refl (held_less rows s d)

and_left : (a b : Bool) → (a && b) ≡ true → a ≡ true
and_left true b e = refl
and_left false b e = e

same_by_test : (a b : Bool) (q s d : ℕ) (row : Row) (rows : List Row) → q ≢ s → is_of q row ≡ a → (is_of s row && is_desc d row) ≡ b → numbers_held (without_desc rows s d) q ≡ numbers_held rows q → numbers_held (without_desc (row ∷ rows) s d) q ≡ numbers_held (row ∷ rows) q
same_by_test true true q s d row rows apart of is rest = absurd (apart (grind (arith, nat_tests, and_left (is_of s row) (is_desc d row) is)))
same_by_test true false q s d row rows apart of is rest = rw (is, of) (ap (λ ns. number row ∷ ns) rest)
same_by_test false true q s d row rows apart of is rest = rw (is, of) rest
same_by_test false false q s d row rows apart of is rest = rw (is, of) rest

pub held_same : (rows : List Row) (q s d : ℕ) → q ≢ s → numbers_held (without_desc rows s d) q ≡ numbers_held rows q
held_same [] q s d apart = refl
held_same (row ∷ rows) q s d apart = same_by_test (is_of q row) (is_of s row && is_desc d row) q s d row rows apart refl refl (held_same rows q s d apart)

pub uses_less : (row : Row) (rows rest : List Row) (o before after : ℕ) → Gone row rows rest → before ≡ count_by (is_to o) rows → after ≡ (if row.object == o then before - 1 else before) → after ≡ count_by (is_to o) rest
uses_less row rows rest o before after gone e f = grind (arith, nat_tests, gone.once (is_to o))

-- the sets, session by session, when a number of one is taken out
pub sets_by_test : (rows rest : List Row) (s d q : ℕ) (old new : ℕ → List ℕ) (b : Bool) → (q == s) ≡ b → rest ≡ without_desc rows s d → ((p : ℕ) → old p ≡ numbers_held rows p) → new s ≡ filter (λ n. not (d == n)) (old s) → ((p : ℕ) → p ≢ s → new p ≡ old p) → new q ≡ numbers_held rest q
sets_by_test rows rest s d q old new true test less agrees here others =
    let same : q ≡ s = grind (arith, nat_tests) in
    ap new same ∙ here ∙ ap (filter (λ n. not (d == n))) (agrees s) ∙ sym (held_less rows s d) ∙ sym (ap (λ rs. numbers_held rs s) less) ∙ ap (numbers_held rest) (sym same)
sets_by_test rows rest s d q old new false test less agrees here others =
    let apart : q ≢ s = λ (e : q ≡ s). grind (arith, nat_tests) in
    others q apart ∙ agrees q ∙ sym (held_same rows q s d apart) ∙ sym (ap (λ rs. numbers_held rs q) less)

-- ---- a row more, and back

below : (rows : List Row) (low high : ℕ) → Rise (low + 1) high rows → low < high
below [] low high h = let e : low + 1 ≤ high = h in omega arith
below (row ∷ rows) low high h = let e : low + 1 ≤ number row = h.0 in omega (arith, below rows (number row) high h.1)

below_by_test : (b : Bool) (row : Row) (rows : List Row) (high : ℕ) → number row < high → AllByRecursion (λ held. held < high) (map number rows) → AllByRecursion (λ held. held < high) (map number (cond b (row ∷ rows) rows))
below_by_test true row rows high l rest = (l, rest)
below_by_test false row rows high l rest = rest

-- the numbers that a session holds are below the next
pub held_below : (rows : List Row) (low high s : ℕ) → Rise low high rows → AllByRecursion (λ held. held < high) (numbers_held rows s)
held_below [] low high s h = tt
held_below (row ∷ rows) low high s h = below_by_test (is_of s row) row _ high (below rows (number row) high h.1) (held_below rows (number row + 1) high s h.1)

length_below : (rows : List Row) (low high : ℕ) → Rise low high rows → low + length rows ≤ high
length_below [] low high h = let e : low ≤ high = h in omega arith
length_below (row ∷ rows) low high h = let e : low ≤ number row = h.0 in let rest : (number row + 1) + length rows ≤ high = length_below rows (number row + 1) high h.1 in omega arith

-- no count is above the number of opens
pub count_below : (p : Row → Bool) (rows : List Row) (high : ℕ) → Rise 0 high rows → count_by p rows ≤ high
count_below p rows high h = let l : 0 + length rows ≤ high = length_below rows 0 high h in let m : count_by p rows ≤ length rows = count_by-le-length p rows in omega arith

last_without : (rows : List Row) (row : Row) (low : ℕ) → Rise low (number row) rows → without_desc (rows ++ row ∷ []) row.session.0 row.desc.0 ≡ rows
last_without [] row low h =
    let of : is_of row.session.0 row ≡ true = grind (arith, nat_tests) in
    let is : is_desc row.desc.0 row ≡ true = grind (arith, nat_tests) in
    rw (of, is) refl
last_without (first ∷ rows) row low h =
    let l : (number first + 1) + length rows ≤ number row = length_below rows (number first + 1) (number row) h.1 in
    let apart : is_desc row.desc.0 first ≡ false = grind (arith, nat_tests) in
    rw (and_false (is_of row.session.0 first) (is_desc row.desc.0 first) apart) (ap (λ rest. first ∷ rest) (last_without rows row (number first + 1) h.1))

once_by_test : (b : Bool) (all rest : ℕ) → all ≡ rest + cond b 1 0 → all ≡ (if b then rest + 1 else rest)
once_by_test true all rest e = e
once_by_test false all rest e = omega arith

pub last_gone : (rows : List Row) (row : Row) → Rise 0 (number row) rows → Gone row (rows ++ row ∷ []) rows
last_gone rows row h = record {
  others = sym (last_without rows row 0 h);
  once = λ p. once_by_test (p row) _ _ (sum_by_push (λ r. cond (p r) 1 0) rows row);
}

-- ---- a row is set

same_head : (c : Bool) (row : Row) (rows rest : List Row) → map number rest ≡ map number rows → map number (cond c (row ∷ rest) rest) ≡ map number (cond c (row ∷ rows) rows)
same_head true row rows rest e = ap (λ ns. number row ∷ ns) e
same_head false row rows rest e = e

set_head : (c to : Bool) (row : Row) (rows : List Row) → map number (cond c (with_nonblock to row ∷ rows) rows) ≡ map number (cond c (row ∷ rows) rows)
set_head true to row rows = refl
set_head false to row rows = refl

set_by_test : (b : Bool) (s : ℕ) (to : Bool) (row : Row) (rows rest : List Row) → numbers_held rest s ≡ numbers_held rows s → numbers_held (if b then with_nonblock to row ∷ rows else row ∷ rest) s ≡ numbers_held (row ∷ rows) s
set_by_test true s to row rows rest e = set_head (is_of s row) to row _
set_by_test false s to row rows rest e = same_head (is_of s row) row _ _ e

pub held_set : (rows : List Row) (s d : ℕ) (b : Bool) → numbers_held (changed_first (is_desc d) (with_nonblock b) rows) s ≡ numbers_held rows s
held_set [] s d b = refl
held_set (row ∷ rows) s d b = set_by_test (is_desc d row) s b row rows _ (held_set rows s d b)

uses_by_test : (b : Bool) (o : ℕ) (to : Bool) (row : Row) (rows rest : List Row) → count_by (is_to o) rest ≡ count_by (is_to o) rows → count_by (is_to o) (if b then with_nonblock to row ∷ rows else row ∷ rest) ≡ count_by (is_to o) (row ∷ rows)
uses_by_test true o to row rows rest e = refl
uses_by_test false o to row rows rest e =
    let weight : Row → ℕ = λ r. cond (is_to o r) 1 0 in
    sum_by-cons weight row rest ∙ ap (λ n. weight row + n) e ∙ sym (sum_by-cons weight row rows)

pub uses_set : (rows : List Row) (o d : ℕ) (b : Bool) → count_by (is_to o) (changed_first (is_desc d) (with_nonblock b) rows) ≡ count_by (is_to o) rows
uses_set [] o d b = refl
uses_set (row ∷ rows) o d b = uses_by_test (is_desc d row) o b row rows _ (uses_set rows o d b)

-- ---- all of a session

session_by_test : (a b : Bool) (s d : ℕ) (row : Row) (rows : List Row) → is_of s row ≡ a → is_desc d row ≡ b → without_session (without_desc rows s d) s ≡ without_session rows s → without_session (without_desc (row ∷ rows) s d) s ≡ without_session (row ∷ rows) s
session_by_test true true s d row rows of is rest = rw (of, is) rest
session_by_test true false s d row rows of is rest = rw (of, is, of) rest
session_by_test false b s d row rows of is rest = rw (of, of) (ap (λ rs. row ∷ rs) rest)

-- a close of the session's own leaves the others' rows
pub session_less : (rows : List Row) (s d : ℕ) → without_session (without_desc rows s d) s ≡ without_session rows s
session_less [] s d = refl
session_less (row ∷ rows) s d = session_by_test (is_of s row) (is_desc d row) s d row rows refl refl (session_less rows s d)

none_by_test : (b : Bool) (s : ℕ) (row : Row) (rows : List Row) → is_of s row ≡ b → None ≡ option_map (λ r. r.desc) (cond b (Some row) (find (is_of s) rows)) → (None ≡ option_map (λ r. r.desc) (find (is_of s) rows) → without_session rows s ≡ rows) → without_session (row ∷ rows) s ≡ row ∷ rows
none_by_test true s row rows of none rest = cc
none_by_test false s row rows of none rest = rw of (ap (λ rs. row ∷ rs) (rest none))

-- where a session has no first row it has none
pub none_left : (rows : List Row) (s : ℕ) → None ≡ option_map (λ row. row.desc) (find (is_of s) rows) → without_session rows s ≡ rows
none_left [] s none = refl
none_left (row ∷ rows) s none = none_by_test (is_of s row) s row rows refl none (none_left rows s)

no_longer : (b : Bool) (row : Row) (rest rows : List Row) → length rest ≤ length rows → length (cond b (row ∷ rest) rest) ≤ length (row ∷ rows)
no_longer true row rest rows l = omega arith
no_longer false row rest rows l = omega arith

without_no_longer : (rows : List Row) (s d : ℕ) → length (without_desc rows s d) ≤ length rows
without_no_longer [] s d = omega arith
without_no_longer (row ∷ rows) s d = no_longer (not (is_of s row && is_desc d row)) row _ rows (without_no_longer rows s d)

shorter_by_test : (b : Bool) (s : ℕ) (desc : Desc) (row : Row) (rows : List Row) → is_of s row ≡ b → Some desc ≡ option_map (λ r. r.desc) (cond b (Some row) (find (is_of s) rows)) → (Some desc ≡ option_map (λ r. r.desc) (find (is_of s) rows) → length (without_desc rows s desc.0) < length rows) → length (without_desc (row ∷ rows) s desc.0) < length (row ∷ rows)
shorter_by_test true s desc row rows of first rest =
    let same : desc ≡ row.desc = cc in
    let n : desc.0 ≡ row.desc.0 = ap (λ (e : Desc). e.0) same in
    let is : is_desc desc.0 row ≡ true = grind (arith, nat_tests) in
    let l : length (without_desc rows s desc.0) ≤ length rows = without_no_longer rows s desc.0 in
    rw (of, is) (omega arith)
shorter_by_test false s desc row rows of first rest = let l : length (without_desc rows s desc.0) < length rows = rest first in rw of (omega arith)

-- a close of a session's first row takes a row away
pub shorter : (rows : List Row) (s : ℕ) (desc : Desc) → Some desc ≡ option_map (λ row. row.desc) (find (is_of s) rows) → length (without_desc rows s desc.0) < length rows
shorter [] s desc first = cc
shorter (row ∷ rows) s desc first = shorter_by_test (is_of s row) s desc row rows refl first (shorter rows s desc)
