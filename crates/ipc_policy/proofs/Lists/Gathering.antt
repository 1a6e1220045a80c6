-- Lists that are gathered from what numbers give: what is found, counted and filtered in them.
use Rattle.std.proofs.Common.{◌≡◌, ℕ, zero, suc, ◌+◌, ◌<◌, ◌≤◌, ◌⊎◌, inl, inr, Bool, true, false, ◌||◌, cond, List, [], ◌∷◌, ◌++◌, find, filter, sum_by, count_by, Option, Some, None, is_some, refl, sym, ap, ◌∙◌, arith}
use Rattle.std.specs.List.{list_any}
use Rattle.std.specs.Option.{option_or, option_to_list}
use Rattle.std.proofs.lemmas.Bool.{cases_eq, cases_lt, or_left, or_right}
use Rattle.std.proofs.lemmas.List.Folds.{find-append, list_any-append}
use Rattle.std.proofs.lemmas.List.Sums.{sum_by-append, sum_by-cons}
use Rattle.std.proofs.lemmas.List.Elements.{filter-append}
use Rattle.ipc_policy.specs.Decides.History.{any_below, how_many_below, sum_below, gathered_below}

pub gathered_same : {A : Type 0} (f g : ℕ → Option A) (n : ℕ) → ((i : ℕ) → i < n → f i ≡ g i) → gathered_below f n ≡ gathered_below g n
gathered_same f g zero same = refl
gathered_same f g (suc n) same =
    ap (λ l. l ++ option_to_list (f n)) (gathered_same f g n (λ i lt. same i (omega arith))) ∙ ap (λ o. gathered_below g n ++ option_to_list o) (same n (omega arith))

-- one more number
pub gathered_more : {A : Type 0} (f g : ℕ → Option A) (m n : ℕ) → m ≡ n + 1 → ((i : ℕ) → i < n → f i ≡ g i) → gathered_below f m ≡ gathered_below g n ++ option_to_list (f n)
gathered_more f g zero n e same = absurd (omega arith)
gathered_more f g (suc m) n e same =
    let at : m ≡ n = omega arith in
    rw at (ap (λ l. l ++ option_to_list (f n)) (gathered_same f g n same))

-- what there is, if it passes a test
abbrev pub passing : {A : Type 0} → (A → Bool) → Option A → Option A
passing keep None = None
passing keep (Some x) = cond (keep x) (Some x) None

filter_listed : {A : Type 0} (keep : A → Bool) (o : Option A) → filter keep (option_to_list o) ≡ option_to_list (passing keep o)
filter_listed keep None = refl
filter_listed keep (Some x) = at (keep x) where
  at : (b : Bool) → cond b (x ∷ []) [] ≡ option_to_list (cond b (Some x) None)
  at true = refl
  at false = refl

pub gathered_filter : {A : Type 0} (keep : A → Bool) (g : ℕ → Option A) (n : ℕ) → filter keep (gathered_below g n) ≡ gathered_below (λ i. passing keep (g i)) n
gathered_filter keep g zero = refl
gathered_filter keep g (suc n) =
    filter-append keep (gathered_below g n) (option_to_list (g n))
    ∙ ap (λ l. l ++ filter keep (option_to_list (g n))) (gathered_filter keep g n)
    ∙ ap (λ l. gathered_below (λ i. passing keep (g i)) n ++ l) (filter_listed keep (g n))

-- whether there is one, and it passes
abbrev pub passes : {A : Type 0} → (A → Bool) → Option A → Bool
passes p None = false
passes p (Some x) = p x

or_swapped : (a b : Bool) → (a || b) ≡ (b || a)
or_swapped true true = refl
or_swapped true false = refl
or_swapped false true = refl
or_swapped false false = refl

or_false : (b : Bool) → (b || false) ≡ b
or_false true = refl
or_false false = refl

any_listed : {A : Type 0} (p : A → Bool) (o : Option A) → list_any p (option_to_list o) ≡ passes p o
any_listed p None = refl
any_listed p (Some x) = or_false (p x)

pub gathered_any : {A : Type 0} (p : A → Bool) (g : ℕ → Option A) (n : ℕ) → list_any p (gathered_below g n) ≡ any_below (λ i. passes p (g i)) n
gathered_any p g zero = refl
gathered_any p g (suc n) =
    list_any-append p (gathered_below g n) (option_to_list (g n))
    ∙ or_swapped (list_any p (gathered_below g n)) (list_any p (option_to_list (g n)))
    ∙ ap (λ b. b || list_any p (gathered_below g n)) (any_listed p (g n))
    ∙ ap (λ b. passes p (g n) || b) (gathered_any p g n)

-- what there is weighs, and how many there are, number by number
abbrev pub weighed : {A : Type 0} → (A → ℕ) → Option A → ℕ
weighed weight None = 0
weighed weight (Some x) = weight x

sum_listed : {A : Type 0} (weight : A → ℕ) (o : Option A) → sum_by weight (option_to_list o) ≡ weighed weight o
sum_listed weight None = refl
sum_listed weight (Some x) = sum_by-cons weight x [] ∙ omega arith

pub gathered_sum : {A : Type 0} (weight : A → ℕ) (g : ℕ → Option A) (n : ℕ) → sum_by weight (gathered_below g n) ≡ sum_below (λ i. weighed weight (g i)) n
gathered_sum weight g zero = refl
gathered_sum weight g (suc n) =
    sum_by-append weight (gathered_below g n) (option_to_list (g n))
    ∙ ap (λ m. m + sum_by weight (option_to_list (g n))) (gathered_sum weight g n)
    ∙ ap (λ m. sum_below (λ i. weighed weight (g i)) n + m) (sum_listed weight (g n))

counted_one : {A : Type 0} (p : A → Bool) (o : Option A) (m : ℕ) → m + count_by p (option_to_list o) ≡ cond (passes p o) (m + 1) m
counted_one p None m = omega arith
counted_one p (Some x) m = at (p x) refl where
  at : (b : Bool) → p x ≡ b → m + count_by p (x ∷ []) ≡ cond b (m + 1) m
  at true e = ap (λ k. m + k) (sum_by-cons (λ y. cond (p y) 1 0) x [] ∙ ap (λ b. cond b 1 0 + 0) e)
  at false e = ap (λ k. m + k) (sum_by-cons (λ y. cond (p y) 1 0) x [] ∙ ap (λ b. cond b 1 0 + 0) e) ∙ omega arith

pub gathered_count : {A : Type 0} (p : A → Bool) (g : ℕ → Option A) (n : ℕ) → count_by p (gathered_below g n) ≡ how_many_below (λ i. passes p (g i)) n
gathered_count p g zero = refl
gathered_count p g (suc n) =
    sum_by-append (λ y. cond (p y) 1 0) (gathered_below g n) (option_to_list (g n))
    ∙ counted_one p (g n) (count_by p (gathered_below g n))
    ∙ ap (λ m. cond (passes p (g n)) (m + 1) m) (gathered_count p g n)

pub any_below_same : (p q : ℕ → Bool) (n : ℕ) → ((i : ℕ) → i < n → p i ≡ q i) → any_below p n ≡ any_below q n
any_below_same p q zero same = refl
any_below_same p q (suc n) same = ap (λ b. b || any_below p n) (same n (omega arith)) ∙ ap (λ b. q n || b) (any_below_same p q n (λ i lt. same i (omega arith)))

-- what holds of one kind holds of another that each of the first is of
pub more_at : (a b c d : Bool) → (a ≡ true → c ≡ true) → (b ≡ true → d ≡ true) → (a || b) ≡ true → (c || d) ≡ true
more_at true b c d one two e = rw (one refl) refl
more_at false b true d one two e = refl
more_at false b false d one two e = two e

pub any_below_more : (p q : ℕ → Bool) (n : ℕ) → ((i : ℕ) → p i ≡ true → q i ≡ true) → any_below p n ≡ true → any_below q n ≡ true
any_below_more p q zero more e = e
any_below_more p q (suc n) more e = more_at (p n) (any_below p n) (q n) (any_below q n) (more n) (any_below_more p q n more) e

pub any_below_at : (p : ℕ → Bool) (n o : ℕ) → o < n → p o ≡ true → any_below p n ≡ true
any_below_at p zero o lt e = absurd (omega arith)
any_below_at p (suc n) o lt e = at (cases_eq n o) (λ less. any_below_at p n o less e) where
  at : (n ≡ o) ⊎ (n ≡ o → ⊥) → (o < n → any_below p n ≡ true) → any_below p (suc n) ≡ true
  at (inl same) rest = or_left (p n) (any_below p n) (ap p same ∙ e)
  at (inr ne) rest = or_right (p n) (any_below p n) (rest (omega arith))

any_none : (p : ℕ → Bool) (n o : ℕ) → n ≤ o → ((i : ℕ) → (i ≡ o → ⊥) → p i ≡ false) → any_below p n ≡ false
any_none p zero o le others = refl
any_none p (suc n) o le others = rw (others n (λ q. absurd (omega arith))) (any_none p n o (omega arith) others)

any_here : (p : ℕ → Bool) (n o : ℕ) → o < n → ((i : ℕ) → (i ≡ o → ⊥) → p i ≡ false) → any_below p n ≡ p o
any_here p zero o lt others = absurd (omega arith)
any_here p (suc n) o lt others = at (cases_eq n o) (λ less. any_here p n o less others) where
  at : (n ≡ o) ⊎ (n ≡ o → ⊥) → (o < n → any_below p n ≡ p o) → any_below p (suc n) ≡ p o
  at (inl e) rest = ap (λ b. p n || b) (any_none p n o (omega arith) others) ∙ or_false (p n) ∙ ap p e
  at (inr ne) rest = ap (λ b. b || any_below p n) (others n ne) ∙ rest (omega arith)

-- where only one number can be of a kind
pub any_one : (p : ℕ → Bool) (n o : ℕ) → (p o ≡ true → o < n) → ((i : ℕ) → (i ≡ o → ⊥) → p i ≡ false) → any_below p n ≡ p o
any_one p n o below others = at (p o) refl (cases_lt o n) where
  at : (b : Bool) → p o ≡ b → (o < n) ⊎ (n ≤ o) → any_below p n ≡ p o
  at b e (inl lt) = any_here p n o lt others
  at true e (inr le) = absurd (let lt = below e in omega arith)
  at false e (inr le) = any_none p n o le others ∙ sym e

-- where each number gives what bears it, the search for a number finds what it gives
found_none : {A : Type 0} (q : A → Bool) (w : Option A) → passes q w ≡ false → find q (option_to_list w) ≡ None
found_none q None e = refl
found_none q (Some x) e = rw e refl

found_own : {A : Type 0} (q : A → Bool) (w : Option A) → ((x : A) → w ≡ Some x → q x ≡ true) → find q (option_to_list w) ≡ w
found_own q None all = refl
found_own q (Some x) all = rw (all x refl) refl

pub find_none : {A : Type 0} (q : A → Bool) (g : ℕ → Option A) (n o : ℕ) → n ≤ o → ((i : ℕ) → (i ≡ o → ⊥) → passes q (g i) ≡ false) → find q (gathered_below g n) ≡ None
find_none q g zero o le others = refl
find_none q g (suc n) o le others =
    find-append q (gathered_below g n) (option_to_list (g n))
    ∙ ap (λ w. option_or w (find q (option_to_list (g n)))) (find_none q g n o (omega arith) others)
    ∙ found_none q (g n) (others n (λ e. absurd (omega arith)))

or_none : {A : Type 0} (w : Option A) → option_or w None ≡ w
or_none None = refl
or_none (Some x) = refl

find_here : {A : Type 0} (q : A → Bool) (g : ℕ → Option A) (n o : ℕ) → o < n → ((i : ℕ) → (i ≡ o → ⊥) → passes q (g i) ≡ false) → ((x : A) → g o ≡ Some x → q x ≡ true) → find q (gathered_below g n) ≡ g o
find_here q g zero o lt others own = absurd (omega arith)
find_here q g (suc n) o lt others own = find-append q (gathered_below g n) (option_to_list (g n)) ∙ at (cases_eq n o) (λ less. find_here q g n o less others own) where
  at : (n ≡ o) ⊎ (n ≡ o → ⊥) → (o < n → find q (gathered_below g n) ≡ g o) → option_or (find q (gathered_below g n)) (find q (option_to_list (g n))) ≡ g o
  at (inl e) rest =
      ap (λ w. option_or w (find q (option_to_list (g n)))) (find_none q g n o (omega arith) others)
      ∙ ap (λ i. find q (option_to_list (g i))) e
      ∙ found_own q (g o) own
  at (inr ne) rest =
      ap (λ w. option_or (find q (gathered_below g n)) w) (found_none q (g n) (others n ne))
      ∙ or_none (find q (gathered_below g n))
      ∙ rest (omega arith)

pub gathered_find : {A : Type 0} (q : A → Bool) (g : ℕ → Option A) (n o : ℕ) → (is_some (g o) ≡ true → o < n) → ((i : ℕ) → (i ≡ o → ⊥) → passes q (g i) ≡ false) → ((x : A) → g o ≡ Some x → q x ≡ true) → find q (gathered_below g n) ≡ g o
gathered_find {A = A} q g n o below others own = at (g o) refl (cases_lt o n) where
  at : (w : Option A) → g o ≡ w → (o < n) ⊎ (n ≤ o) → find q (gathered_below g n) ≡ g o
  at w e (inl lt) = find_here q g n o lt others own
  at None e (inr le) = find_none q g n o le others ∙ sym e
  at (Some x) e (inr le) = absurd (let lt = below (ap is_some e) in omega arith)

-- what is found in a filtered list
pub find_kept : {X : Type 0} (q keep : X → Bool) (xs : List X) → ((x : X) → q x ≡ true → keep x ≡ true) → find q (filter keep xs) ≡ find q xs
find_kept q keep [] h = refl
find_kept q keep (x ∷ xs) h = kept_at (q x) (keep x) refl refl (find_kept q keep xs h) where
  kept_at : (b k : Bool) → q x ≡ b → keep x ≡ k → find q (filter keep xs) ≡ find q xs → find q (cond k (x ∷ filter keep xs) (filter keep xs)) ≡ cond b (Some x) (find q xs)
  kept_at true true e f rest = rw e refl
  kept_at false true e f rest = rw e rest
  kept_at true false e f rest = absurd (let g = h x e in cc)
  kept_at false false e f rest = rest

pub find_dropped : {X : Type 0} (q keep : X → Bool) (xs : List X) → ((x : X) → q x ≡ true → keep x ≡ false) → find q (filter keep xs) ≡ None
find_dropped q keep [] h = refl
find_dropped q keep (x ∷ xs) h = dropped_at (keep x) refl (q x) refl (find_dropped q keep xs h) where
  dropped_at : (k : Bool) → keep x ≡ k → (b : Bool) → q x ≡ b → find q (filter keep xs) ≡ None → find q (cond k (x ∷ filter keep xs) (filter keep xs)) ≡ None
  dropped_at true f true e rest = absurd (let g = h x e in cc)
  dropped_at true f false e rest = rw e rest
  dropped_at false f b e rest = rest

pub filter_all : {X : Type 0} (xs : List X) → filter (λ x. true) xs ≡ xs
filter_all [] = refl
filter_all (x ∷ xs) = ap (λ l. x ∷ l) (filter_all xs)
