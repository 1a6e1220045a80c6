-- A row among others of other numbers: what a filter, a change and a count make of such a list.
use Rattle.std.proofs.Common.{◌≡◌, Bool, true, false, cond, ℕ, ◌+◌, ◌==◌, ◌&&◌, List, [], ◌∷◌, ◌++◌, refl, ap, arith, count_by, if◌then◌else◌}
use Rattle.std.specs.List.{AllByRecursion}
use Rattle.std.proofs.lemmas.Bool.Decides.{nat_tests}
use Rattle.std.proofs.lemmas.List.Sums.{sum_by-append, sum_by-cons}
use Rattle.ipc_descr.specs.declared.row.Row.{Row}
use Rattle.ipc_terms.specs.Lists.{changed_first}
use Rattle.ipc_descr.specs.Descriptions.{is_desc, is_of, without_desc}

-- the rows are none of description d
abbrev pub Others : ℕ → List Row → Type 0
Others d rows = AllByRecursion (λ other. (d == other.desc.0) ≡ false) rows

pub and_false : (b c : Bool) → c ≡ false → (b && c) ≡ false
and_false true c e = e
and_false false c e = refl

pub filter_others : (s d : ℕ) (rows : List Row) → Others d rows → without_desc rows s d ≡ rows
filter_others s d [] h = refl
filter_others s d (row ∷ rows) h = rw (and_false (is_of s row) (is_desc d row) h.0) (ap (λ rest. row ∷ rest) (filter_others s d rows h.1))

pub filter_split : (s d : ℕ) (row : Row) (before after : List Row) → is_of s row ≡ true → row.desc.0 ≡ d → Others d before → Others d after → without_desc (before ++ row ∷ after) s d ≡ before ++ after
filter_split s d row [] after of is hb ha =
    let test : is_desc d row ≡ true = grind (arith, nat_tests) in
    rw (of, test) (filter_others s d after ha)
filter_split s d row (first ∷ before) after of is hb ha = rw (and_false (is_of s first) (is_desc d first) hb.0) (ap (λ rest. first ∷ rest) (filter_split s d row before after of is hb.1 ha))

-- one row of these is counted no more
abbrev pub TakenOnce : Row → List Row → List Row → Type 0
TakenOnce row rows rest = (p : Row → Bool) → count_by p rows ≡ (if p row then count_by p rest + 1 else count_by p rest)

count_by_test : (b : Bool) (all before later after rest : ℕ) → all ≡ before + later → later ≡ cond b 1 0 + after → rest ≡ before + after → all ≡ (if b then rest + 1 else rest)
count_by_test true all before later after rest e f g = omega arith
count_by_test false all before later after rest e f g = omega arith

pub count_once : (row : Row) (before after : List Row) → TakenOnce row (before ++ row ∷ after) (before ++ after)
count_once row before after p =
    let weight : Row → ℕ = λ x. cond (p x) 1 0 in
    count_by_test (p row) _ _ _ _ _ (sum_by-append weight before (row ∷ after)) (sum_by-cons weight row after) (sum_by-append weight before after)

pub changed_split : (d : ℕ) (change : Row → Row) (row : Row) (before after : List Row) → row.desc.0 ≡ d → Others d before → changed_first (is_desc d) change (before ++ row ∷ after) ≡ before ++ change row ∷ after
changed_split d change row [] after is hb =
    let test : is_desc d row ≡ true = grind (arith, nat_tests) in
    rw test refl
changed_split d change row (first ∷ before) after is hb = rw hb.0 (ap (λ rest. first ∷ rest) (changed_split d change row before after is hb.1))
