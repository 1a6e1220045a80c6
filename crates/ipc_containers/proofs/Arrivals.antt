-- Calls by the numbers of their arrivals: what an arrival, a serving and a withdrawal make of them.
use Rattle.std.proofs.Common.{◌≡◌, ℕ, ◌+◌, ◌<◌, ◌≤◌, ◌==◌, Bool, true, false, cond, List, [], ◌∷◌, ◌++◌, drop, Some, None, slice_get, refl, sym, ap, ◌∙◌, arith}
use Rattle.std.proofs.lemmas.Bool.{eqb-true, eqb-false, eq-eqb, ne_eqb}
use Rattle.std.proofs.lemmas.Bool.Decides.{nat_tests}
use Rattle.std.specs.List.{list_any}
use Rattle.std.specs.Ordering.{nat_cmp, is_eq}
use Rattle.std.specs.declared.cmp.Ordering.TheVariants.{Equal, Greater}
use Rattle.std.specs.Map.{values_of, remove_entry}
use Rattle.std.specs.BTreeMap.{insert_entry, is_at}
use Rattle.ipc_terms.specs.Lists.{first, without_first}
use Rattle.ipc_containers.specs.Waiters.{numbers_of, Rise}

-- ---- numbers that rise
greater : (n m : ℕ) → m < n → nat_cmp n m ≡ Greater
greater n m less = grind (arith, nat_tests)

equal : (n m : ℕ) → m ≡ n → nat_cmp n m ≡ Equal
equal n m same = grind (arith, nat_tests)

less : (n m : ℕ) → n < m → is_eq (nat_cmp n m) ≡ false
less n m below = grind (arith, nat_tests)

pub rise_ends : {T : Type 0} (low : ℕ) (es : List (ℕ × T)) (next : ℕ) → Rise low es next → low ≤ next
rise_ends low [] next rise = rise
rise_ends low ((n, call) ∷ es) next rise = let rest = rise_ends (n + 1) es next rise.1 in let from = rise.0 in omega arith

pub rise_from : {T : Type 0} (lower low : ℕ) (es : List (ℕ × T)) (next : ℕ) → lower ≤ low → Rise low es next → Rise lower es next
rise_from lower low [] next below rise = omega arith
rise_from lower low ((n, call) ∷ es) next below rise = (let from = rise.0 in omega arith, rise.1)

-- ---- an arrival
pub rise_push : {T : Type 0} (low : ℕ) (es : List (ℕ × T)) (next : ℕ) (call : T) → Rise low es next → Rise low (es ++ (next, call) ∷ []) (next + 1)
rise_push low [] next call rise = (rise, omega arith)
rise_push low ((n, c) ∷ es) next call rise = (rise.0, rise_push (n + 1) es next call rise.1)

-- it stands last
pub insert_last : {T : Type 0} (low : ℕ) (es : List (ℕ × T)) (next : ℕ) (call : T) → Rise low es next → insert_entry nat_cmp es next call ≡ es ++ (next, call) ∷ []
insert_last low [] next call rise = refl
insert_last low ((n, c) ∷ es) next call rise =
    let rest = rise_ends (n + 1) es next rise.1 in
    rw (greater next n (omega arith)) (ap (λ l. (n, c) ∷ l) (insert_last (n + 1) es next call rise.1))

-- taken out again, it leaves what was there
pub remove_last : {T : Type 0} (low : ℕ) (es : List (ℕ × T)) (next : ℕ) (call : T) → Rise low es next → remove_entry (is_at (nat_cmp next)) (es ++ (next, call) ∷ []) ≡ es
remove_last low [] next call rise = rw (equal next next refl) refl
remove_last low ((n, c) ∷ es) next call rise =
    let rest = rise_ends (n + 1) es next rise.1 in
    rw (greater next n (omega arith)) (ap (λ l. (n, c) ∷ l) (remove_last (n + 1) es next call rise.1))

pub values_push : {T : Type 0} (es : List (ℕ × T)) (next : ℕ) (call : T) → values_of (es ++ (next, call) ∷ []) ≡ values_of es ++ call ∷ []
values_push [] next call = refl
values_push ((n, c) ∷ es) next call = ap (λ l. c ∷ l) (values_push es next call)

pub numbers_push : {T : Type 0} (caller : T → ℕ) (q : ℕ) (es : List (ℕ × T)) (next : ℕ) (call : T) → numbers_of caller q (es ++ (next, call) ∷ []) ≡ cond (q == caller call) (numbers_of caller q es ++ next ∷ []) (numbers_of caller q es)
numbers_push caller q [] next call = refl
numbers_push caller q ((n, c) ∷ es) next call = by (q == caller c) (q == caller call) (numbers_push caller q es next call) where
  by : (b t : Bool) → numbers_of caller q (es ++ (next, call) ∷ []) ≡ cond t (numbers_of caller q es ++ next ∷ []) (numbers_of caller q es) → cond b (n ∷ numbers_of caller q (es ++ (next, call) ∷ [])) (numbers_of caller q (es ++ (next, call) ∷ [])) ≡ cond t (cond b (n ∷ numbers_of caller q es) (numbers_of caller q es) ++ next ∷ []) (cond b (n ∷ numbers_of caller q es) (numbers_of caller q es))
  by true true e = ap (λ l. n ∷ l) e
  by true false e = ap (λ l. n ∷ l) e
  by false true e = e
  by false false e = e

-- ---- a serving
-- its number leaves its caller's
pub numbers_served : {T : Type 0} (caller : T → ℕ) (q n : ℕ) (call : T) (es : List (ℕ × T)) → numbers_of caller q es ≡ cond (q == caller call) (drop 1 (numbers_of caller q ((n, call) ∷ es))) (numbers_of caller q ((n, call) ∷ es))
numbers_served caller q n call es = by (q == caller call) where
  by : (b : Bool) → numbers_of caller q es ≡ cond b (drop 1 (cond b (n ∷ numbers_of caller q es) (numbers_of caller q es))) (cond b (n ∷ numbers_of caller q es) (numbers_of caller q es))
  by true = refl
  by false = refl

-- ---- the first
pub first_value : {T : Type 0} (es : List (ℕ × T)) (n : ℕ) (call : T) → slice_get es 0 ≡ Some (n, call) → Some call ≡ first (values_of es)
first_value {T = T} [] n call e = absurd cc
first_value {T = T} (entry ∷ es) n call e = by_entry entry (n, call) cc where
  by_entry : (p q : ℕ × T) → p ≡ q → Some q.1 ≡ Some p.1
  by_entry p q same = ap (λ r. Some r.1) (sym same)

-- the first of some
pub starts : {A : Type 0} (xs : List A) (x : A) → first xs ≡ Some x → (rest : List A) × (xs ≡ x ∷ rest)
starts [] x e = absurd cc
starts (y ∷ xs) x e = (xs, let same : y ≡ x = cc in ap (λ z. z ∷ xs) same)

pub none_starts : {A : Type 0} (xs : List A) → first xs ≡ None → xs ≡ []
none_starts [] e = refl
none_starts (x ∷ xs) e = absurd cc

-- ---- a withdrawal
turned : (a b : ℕ) (t : Bool) → (a == b) ≡ t → (b == a) ≡ t
turned a b true e = eq-eqb b a (sym (eqb-true a b e))
turned a b false e = ne_eqb b a (λ same. eqb-false a b e (sym same))

-- a session without a number has no call
pub none_withdrawn : {T : Type 0} (caller : T → ℕ) (s : ℕ) (es : List (ℕ × T)) → numbers_of caller s es ≡ [] → (list_any (λ call. caller call == s) (values_of es) ≡ false) × (without_first (λ call. caller call == s) (values_of es) ≡ values_of es)
none_withdrawn caller s [] e = (refl, refl)
none_withdrawn caller s ((n, c) ∷ es) e = by (s == caller c) refl e (λ k. none_withdrawn caller s es k) where
  by : (b : Bool) → (s == caller c) ≡ b → cond b (n ∷ numbers_of caller s es) (numbers_of caller s es) ≡ [] → (numbers_of caller s es ≡ [] → (list_any (λ call. caller call == s) (values_of es) ≡ false) × (without_first (λ call. caller call == s) (values_of es) ≡ values_of es)) → (list_any (λ call. caller call == s) (values_of ((n, c) ∷ es)) ≡ false) × (without_first (λ call. caller call == s) (values_of ((n, c) ∷ es)) ≡ values_of ((n, c) ∷ es))
  by true f k behind = absurd cc
  by false f k behind =
      let rest = behind k in
      let apart = turned s (caller c) false f in
      (rw apart rest.0, rw apart (ap (λ l. c ∷ l) rest.1))

-- numbers are those of entries
number_from : {T : Type 0} (caller : T → ℕ) (s low n : ℕ) (rest : List ℕ) (es : List (ℕ × T)) (next : ℕ) → Rise low es next → numbers_of caller s es ≡ n ∷ rest → low ≤ n
number_from caller s low n rest [] next rise e = absurd cc
number_from caller s low n rest ((m, c) ∷ es) next rise e = by (s == caller c) e (λ k. number_from caller s (m + 1) n rest es next rise.1 k) where
  by : (b : Bool) → cond b (m ∷ numbers_of caller s es) (numbers_of caller s es) ≡ n ∷ rest → (numbers_of caller s es ≡ n ∷ rest → m + 1 ≤ n) → low ≤ n
  by true k behind = let same : m ≡ n = cc in let from = rise.0 in omega arith
  by false k behind = let above = behind k in let from = rise.0 in omega arith

pub record Withdrawn {T : Type 0} (caller : T → ℕ) (s n low : ℕ) (es : List (ℕ × T)) (next : ℕ) : Type 0 where
  pub found : list_any (λ call. caller call == s) (values_of es) ≡ true
  pub calls : values_of (remove_entry (is_at (nat_cmp n)) es) ≡ without_first (λ call. caller call == s) (values_of es)
  pub numbers : (q : ℕ) → numbers_of caller q (remove_entry (is_at (nat_cmp n)) es) ≡ cond (q == s) (drop 1 (numbers_of caller q es)) (numbers_of caller q es)
  pub rising : Rise low (remove_entry (is_at (nat_cmp n)) es) next

-- the session's first number is that of its longest waiting call
pub one_withdrawn : {T : Type 0} (caller : T → ℕ) (s low n : ℕ) (rest : List ℕ) (es : List (ℕ × T)) (next : ℕ) → Rise low es next → numbers_of caller s es ≡ n ∷ rest → Withdrawn caller s n low es next
one_withdrawn caller s low n rest [] next rise e = absurd cc
one_withdrawn {T = T} caller s low n rest ((m, c) ∷ es) next rise e = by (s == caller c) refl e (λ k. one_withdrawn caller s (m + 1) n rest es next rise.1 k) where
  -- its own call
  own : (q : ℕ) → s ≡ caller c → numbers_of caller q es ≡ cond (q == s) (drop 1 (numbers_of caller q ((m, c) ∷ es))) (numbers_of caller q ((m, c) ∷ es))
  own q same = rw same (numbers_served caller q m c es)

  -- another's call
  other : (q : ℕ) (ns : List ℕ) → (s == caller c) ≡ false → ns ≡ cond (q == s) (drop 1 (numbers_of caller q es)) (numbers_of caller q es) → cond (q == caller c) (m ∷ ns) ns ≡ cond (q == s) (drop 1 (numbers_of caller q ((m, c) ∷ es))) (numbers_of caller q ((m, c) ∷ es))
  other q ns apart is = at (q == s) (q == caller c) refl refl is where
    at : (b t : Bool) → (q == s) ≡ b → (q == caller c) ≡ t → ns ≡ cond b (drop 1 (numbers_of caller q es)) (numbers_of caller q es) → cond t (m ∷ ns) ns ≡ cond b (drop 1 (cond t (m ∷ numbers_of caller q es) (numbers_of caller q es))) (cond t (m ∷ numbers_of caller q es) (numbers_of caller q es))
    at true true f g k = absurd (eqb-false s (caller c) apart (sym (eqb-true q s f) ∙ eqb-true q (caller c) g))
    at true false f g k = k
    at false true f g k = ap (λ l. m ∷ l) k
    at false false f g k = k

  by : (b : Bool) → (s == caller c) ≡ b → cond b (m ∷ numbers_of caller s es) (numbers_of caller s es) ≡ n ∷ rest → (numbers_of caller s es ≡ n ∷ rest → Withdrawn caller s n (m + 1) es next) → Withdrawn caller s n low ((m, c) ∷ es) next
  by true f k behind =
      let same : m ≡ n = cc in
      let here = equal n m same in
      let is = turned s (caller c) true f in
      record {
        found = rw is refl;
        calls = rw (here, is) refl;
        numbers = λ q. rw here (own q (eqb-true s (caller c) f));
        rising = let from = rise.0 in rw here (rise_from low (m + 1) es next (omega arith) rise.1);
      }
  by false f k behind =
      let rest_of = behind k in
      let above = number_from caller s (m + 1) n rest es next rise.1 k in
      let apart = greater n m (omega arith) in
      let is = turned s (caller c) false f in
      record {
        found = rw is rest_of.found;
        calls = rw (apart, is) (ap (λ l. c ∷ l) rest_of.calls);
        numbers = λ q. rw apart (other q (numbers_of caller q (remove_entry (is_at (nat_cmp n)) es)) f (rest_of.numbers q));
        rising = rw apart (rise.0, rest_of.rising);
      }
