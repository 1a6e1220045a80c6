-- A description that passes to another session: what the rows, the sets and the counts are then.
use Rattle.std.proofs.Common.{◌≡◌, ◌≢◌, Bool, true, false, cond, not, ℕ, ◌+◌, ◌≤◌, ◌<◌, ◌==◌, List, [], ◌∷◌, Option, Some, None, refl, sym, ap, ◌∙◌, arith, filter, map, find, count_by, IsSome, if◌then◌else◌}
use Rattle.std.specs.List.{AllByRecursion}
use Rattle.std.specs.Ordering.{nat_cmp}
use Rattle.std.specs.BTreeSet.{insert_key}
use Rattle.std.proofs.lemmas.Bool.Decides.{nat_tests}
use Rattle.std.proofs.lemmas.List.Sums.{sum_by-cons}
use Rattle.ipc_terms.specs.Lists.{changed_first}
use Rattle.ipc_terms.specs.declared.ids.Sid.{Sid}
use Rattle.ipc_descr.specs.declared.row.Row.{Row}
use Rattle.ipc_descr.specs.Descriptions.{number, is_desc, is_of, is_to, row_of, with_session, Rise}
use Rattle.ipc_descr.specs.Counting.{numbers_held}
use Rattle.ipc_descr.proofs.NumbersLemmas.{inserted_below, inserted_past}

-- the rows with description d another session's
abbrev pub passed : ℕ → Sid → List Row → List Row
passed d taker rows = changed_first (is_desc d) (with_session taker) rows

-- ---- the row that passes

own_by_test : (b : Bool) (row : Row) → IsSome (if b then Some row else None) → b ≡ true
own_by_test true row some = refl
own_by_test false row some = cc

here : (s d : ℕ) (row : Row) (rows : List Row) → is_desc d row ≡ true → IsSome (row_of (row ∷ rows) s d) → is_of s row ≡ true
here s d row rows is some = own_by_test (is_of s row) row (rw is at some)

later : (s d : ℕ) (row : Row) (rows : List Row) → is_desc d row ≡ false → IsSome (row_of (row ∷ rows) s d) → IsSome (row_of rows s d)
later s d row rows is some = rw is at some

-- its number is not below the least
found_from : (rows : List Row) (low high s d : ℕ) → Rise low high rows → IsSome (row_of rows s d) → low ≤ d
found_from [] low high s d rise some = cc
found_from (row ∷ rows) low high s d rise some = at (is_desc d row) refl (λ is. found_from rows (number row + 1) high s d rise.1 (later s d row rows is some)) where
  at : (b : Bool) → is_desc d row ≡ b → (is_desc d row ≡ false → number row + 1 ≤ d) → low ≤ d
  at true is rest = let same : d ≡ number row = grind (arith, nat_tests) in let l : low ≤ number row = rise.0 in omega arith
  at false is rest = let l : low ≤ number row = rise.0 in omega (arith, rest is)

-- what a session holds of rows that rise from above a number is above it
above_by_test : (b : Bool) (row : Row) (rows : List Row) (n : ℕ) → n < number row → AllByRecursion (λ held. n < held) (map number rows) → AllByRecursion (λ held. n < held) (map number (cond b (row ∷ rows) rows))
above_by_test true row rows n l rest = (l, rest)
above_by_test false row rows n l rest = rest

held_above : (rows : List Row) (low high n s : ℕ) → n < low → Rise low high rows → AllByRecursion (λ held. n < held) (numbers_held rows s)
held_above [] low high n s l rise = tt
held_above (row ∷ rows) low high n s l rise = let m : low ≤ number row = rise.0 in above_by_test (is_of s row) row _ n (omega arith) (held_above rows (number row + 1) high n s (omega arith) rise.1)

others_stay : (n : ℕ) (numbers : List ℕ) → AllByRecursion (λ held. n < held) numbers → filter (λ held. not (n == held)) numbers ≡ numbers
others_stay n [] h = refl
others_stay n (held ∷ numbers) h =
    let l : n < held = h.0 in
    let apart : (n == held) ≡ false = grind (arith, nat_tests) in
    rw apart (ap (λ rest. held ∷ rest) (others_stay n numbers h.1))

-- ---- the numbers of each session

-- of the taker
taken_later : (c : Bool) (d : ℕ) (row : Row) (rest rows : List ℕ) → number row < d → rest ≡ insert_key nat_cmp rows d → cond c (number row ∷ rest) rest ≡ insert_key nat_cmp (cond c (number row ∷ rows) rows) d
taken_later true d row rest rows l e = ap (λ ns. number row ∷ ns) e ∙ sym (inserted_past d (number row) rows l)
taken_later false d row rest rows l e = e

head_of : (c : Bool) (row : Row) (rows : List Row) → map number (cond c (row ∷ rows) rows) ≡ cond c (number row ∷ map number rows) (map number rows)
head_of true row rows = refl
head_of false row rows = refl

pub taken : (rows : List Row) (low high s d : ℕ) (taker : Sid) → s ≢ taker.0 → Rise low high rows → IsSome (row_of rows s d) → numbers_held (passed d taker rows) taker.0 ≡ insert_key nat_cmp (numbers_held rows taker.0) d
taken [] low high s d taker apart rise some = cc
taken (row ∷ rows) low high s d taker apart rise some = at (is_desc d row) refl (λ is. taken rows (number row + 1) high s d taker apart rise.1 (later s d row rows is some)) where
  at : (b : Bool) → is_desc d row ≡ b → (is_desc d row ≡ false → numbers_held (passed d taker rows) taker.0 ≡ insert_key nat_cmp (numbers_held rows taker.0) d) → numbers_held (passed d taker (row ∷ rows)) taker.0 ≡ insert_key nat_cmp (numbers_held (row ∷ rows) taker.0) d
  at true is rest =
      let own : is_of s row ≡ true = here s d row rows is some in
      let same : d ≡ number row = grind (arith, nat_tests) in
      let session : s ≡ row.session.0 = grind (arith, nat_tests) in
      let other : is_of taker.0 row ≡ false = grind (arith, nat_tests) in
      let mine : (taker.0 == taker.0) ≡ true = grind (arith, nat_tests) in
      rw (is, other, mine) (ap (λ n. n ∷ numbers_held rows taker.0) (sym same) ∙ sym (inserted_below d (numbers_held rows taker.0) (held_above rows (number row + 1) high d taker.0 (omega arith) rise.1)))
  at false is rest =
      let there = later s d row rows is some in
      let l = found_from rows (number row + 1) high s d rise.1 there in
      rw is (head_of (is_of taker.0 row) row _ ∙ taken_later (is_of taker.0 row) d row _ _ (omega arith) (rest is) ∙ ap (λ ns. insert_key nat_cmp ns d) (sym (head_of (is_of taker.0 row) row _)))

-- of the session that had it
left_later : (c : Bool) (d : ℕ) (row : Row) (rest rows : List ℕ) → is_desc d row ≡ false → rest ≡ filter (λ n. not (d == n)) rows → cond c (number row ∷ rest) rest ≡ filter (λ n. not (d == n)) (cond c (number row ∷ rows) rows)
left_later true d row rest rows is e = rw is (ap (λ ns. number row ∷ ns) e)
left_later false d row rest rows is e = e

pub left : (rows : List Row) (low high s d : ℕ) (taker : Sid) → s ≢ taker.0 → Rise low high rows → IsSome (row_of rows s d) → numbers_held (passed d taker rows) s ≡ filter (λ n. not (d == n)) (numbers_held rows s)
left [] low high s d taker apart rise some = cc
left (row ∷ rows) low high s d taker apart rise some = at (is_desc d row) refl (λ is. left rows (number row + 1) high s d taker apart rise.1 (later s d row rows is some)) where
  at : (b : Bool) → is_desc d row ≡ b → (is_desc d row ≡ false → numbers_held (passed d taker rows) s ≡ filter (λ n. not (d == n)) (numbers_held rows s)) → numbers_held (passed d taker (row ∷ rows)) s ≡ filter (λ n. not (d == n)) (numbers_held (row ∷ rows) s)
  at true is rest =
      let own : is_of s row ≡ true = here s d row rows is some in
      let same : d ≡ number row = grind (arith, nat_tests) in
      let other : (s == taker.0) ≡ false = grind (arith, nat_tests) in
      rw (is, other, own, is) (sym (others_stay d (numbers_held rows s) (held_above rows (number row + 1) high d s (omega arith) rise.1)))
  at false is rest =
      rw is (head_of (is_of s row) row _ ∙ left_later (is_of s row) d row _ _ is (rest is) ∙ ap (filter (λ n. not (d == n))) (sym (head_of (is_of s row) row _)))

-- and of the others
pub kept : (rows : List Row) (s d q : ℕ) (taker : Sid) → q ≢ s → q ≢ taker.0 → IsSome (row_of rows s d) → numbers_held (passed d taker rows) q ≡ numbers_held rows q
kept [] s d q taker apart other some = cc
kept (row ∷ rows) s d q taker apart other some = at (is_desc d row) refl (λ is. kept rows s d q taker apart other (later s d row rows is some)) where
  at : (b : Bool) → is_desc d row ≡ b → (is_desc d row ≡ false → numbers_held (passed d taker rows) q ≡ numbers_held rows q) → numbers_held (passed d taker (row ∷ rows)) q ≡ numbers_held (row ∷ rows) q
  at true is rest =
      let own : is_of s row ≡ true = here s d row rows is some in
      let session : s ≡ row.session.0 = grind (arith, nat_tests) in
      let not_mine : is_of q row ≡ false = grind (arith, nat_tests) in
      let not_taker : (q == taker.0) ≡ false = grind (arith, nat_tests) in
      rw (is, not_taker, not_mine) refl
  at false is rest = rw is (head_of (is_of q row) row _ ∙ ap (λ ns. cond (is_of q row) (number row ∷ ns) ns) (rest is) ∙ sym (head_of (is_of q row) row _))

-- the sets, session by session, when the taker has the number and then the session has it no more
pub sets_passed : (rows : List Row) (high s d q : ℕ) (taker : Sid) (old between new : ℕ → List ℕ) → s ≢ taker.0 → Rise 0 high rows → IsSome (row_of rows s d) → ((p : ℕ) → old p ≡ numbers_held rows p) → between taker.0 ≡ insert_key nat_cmp (old taker.0) d → ((p : ℕ) → p ≢ taker.0 → between p ≡ old p) → new s ≡ filter (λ n. not (d == n)) (between s) → ((p : ℕ) → p ≢ s → new p ≡ between p) → new q ≡ numbers_held (passed d taker rows) q
sets_passed rows high s d q taker old between new apart rise some agrees in' others out' others' = at (q == taker.0) refl (q == s) refl where
  at : (a : Bool) → (q == taker.0) ≡ a → (b : Bool) → (q == s) ≡ b → new q ≡ numbers_held (passed d taker rows) q
  at true e b f =
      let same : q ≡ taker.0 = grind (arith, nat_tests) in
      let other : taker.0 ≢ s = λ (i : taker.0 ≡ s). apart (sym i) in
      ap new same ∙ others' taker.0 other ∙ in' ∙ ap (λ ns. insert_key nat_cmp ns d) (agrees taker.0) ∙ sym (taken rows 0 high s d taker apart rise some) ∙ ap (numbers_held (passed d taker rows)) (sym same)
  at false e true f =
      let same : q ≡ s = grind (arith, nat_tests) in
      ap new same ∙ out' ∙ ap (filter (λ n. not (d == n))) (others s apart ∙ agrees s) ∙ sym (left rows 0 high s d taker apart rise some) ∙ ap (numbers_held (passed d taker rows)) (sym same)
  at false e false f =
      let not_taker : q ≢ taker.0 = λ (i : q ≡ taker.0). grind (arith, nat_tests) in
      let not_mine : q ≢ s = λ (i : q ≡ s). grind (arith, nat_tests) in
      others' q not_mine ∙ others q not_taker ∙ agrees q ∙ sym (kept rows s d q taker not_mine not_taker some)

-- as many rows give each object
uses_by_test : (b : Bool) (o : ℕ) (taker : Sid) (row : Row) (rows rest : List Row) → count_by (is_to o) rest ≡ count_by (is_to o) rows → count_by (is_to o) (if b then with_session taker row ∷ rows else row ∷ rest) ≡ count_by (is_to o) (row ∷ rows)
uses_by_test true o taker row rows rest e = refl
uses_by_test false o taker row rows rest e =
    let weight : Row → ℕ = λ r. cond (is_to o r) 1 0 in
    sum_by-cons weight row rest ∙ ap (λ n. weight row + n) e ∙ sym (sum_by-cons weight row rows)

pub uses_passed : (rows : List Row) (o d : ℕ) (taker : Sid) → count_by (is_to o) (passed d taker rows) ≡ count_by (is_to o) rows
uses_passed [] o d taker = refl
uses_passed (row ∷ rows) o d taker = uses_by_test (is_desc d row) o taker row rows _ (uses_passed rows o d taker)

-- ---- to the session that has it

same_session : (taker : Sid) (row : Row) → row.session.0 ≡ taker.0 → with_session taker row ≡ row
same_session taker row e = ap (λ (n : ℕ). record row { session = record { 0 = n } }) (sym e)

pub unpassed : (rows : List Row) (d : ℕ) (taker : Sid) → IsSome (row_of rows taker.0 d) → passed d taker rows ≡ rows
unpassed [] d taker some = cc
unpassed (row ∷ rows) d taker some = at (is_desc d row) refl (λ is. unpassed rows d taker (later taker.0 d row rows is some)) where
  at : (b : Bool) → is_desc d row ≡ b → (is_desc d row ≡ false → passed d taker rows ≡ rows) → passed d taker (row ∷ rows) ≡ row ∷ rows
  at true is rest =
      let own : is_of taker.0 row ≡ true = here taker.0 d row rows is some in
      let session : row.session.0 ≡ taker.0 = grind (arith, nat_tests) in
      rw is (ap (λ r. r ∷ rows) (same_session taker row session))
  at false is rest = rw is (ap (λ rs. row ∷ rs) (rest is))
