-- How many sends of a place a list has, and what one act does to these numbers.
use Rattle.std.proofs.Common.{◌≡◌, ℕ, zero, suc, ◌+◌, ◌≤◌, Bool, true, false, not, ◌&&◌, ◌||◌, eqb, ltb, List, [], ◌∷◌, ◌++◌, cond, Option, Some, None, refl, sym, ap, ◌∙◌, arith}
use Rattle.std.specs.Option.{option_to_list}
use Rattle.std.specs.Prelude.{filter, nat_lt}
use Rattle.std.proofs.lemmas.Bool.{eqb-true, eqb-false, eq-eqb, ne_eqb}
use Rattle.ipc_terms.specs.Lists.{first}
use Rattle.ipc_policy.specs.Decides.Queues.{Send, Act, Sends, Receives, Withdraws, NoAct, Queue, is_filled, has_none, next, others, tail, senders_after, contents_after}
use Rattle.ipc_policy.specs.Decides.Parking.{stands_at}

-- how many of the sends were made at this place
abbrev pub count_at : ℕ → List Send → ℕ
count_at i [] = 0
count_at i (m ∷ ms) = cond (eqb m.place i) (count_at i ms + 1) (count_at i ms)

-- it is the send of this place
abbrev pub is_send_at : ℕ → Act → Bool
is_send_at i (Sends m) = eqb m.place i
is_send_at i _ = false

-- a send that enters is taken at once where a receive is parked; a receive takes the next message
abbrev pub takes_at : ℕ → ℕ → Act → Queue → Bool
takes_at maxmsg i (Sends m) q = (not (is_filled maxmsg q.contents) && not (has_none q.receivers)) && eqb m.place i
takes_at maxmsg i (Receives w) q = stands_at (λ m. m.place) i (next q.contents)
takes_at maxmsg i _ q = false

-- an interrupt or a hang-up withdraws the parked sends of its session
abbrev pub withdraws_at : ℕ → Act → Queue → Bool
withdraws_at i (Withdraws s) q = nat_lt 0 (count_at i (filter (λ m. eqb m.session s) q.senders))
withdraws_at i _ q = false

pub count_append : (i : ℕ) (xs ys : List Send) → count_at i (xs ++ ys) ≡ count_at i xs + count_at i ys
count_append i [] ys = omega arith
count_append i (x ∷ xs) ys = more (eqb x.place i) (count_append i xs ys) where
  more : (b : Bool) → count_at i (xs ++ ys) ≡ count_at i xs + count_at i ys → cond b (count_at i (xs ++ ys) + 1) (count_at i (xs ++ ys)) ≡ cond b (count_at i xs + 1) (count_at i xs) + count_at i ys
  more true e = omega arith
  more false e = e

-- those that pass a test and those that fail it
pub count_parts : (i : ℕ) (p : Send → Bool) (xs : List Send) → count_at i (filter (λ m. not (p m)) xs) + count_at i (filter p xs) ≡ count_at i xs
count_parts i p [] = refl
count_parts i p (x ∷ xs) = more (p x) (eqb x.place i) (count_parts i p xs) where
  kept_at : Bool → Bool → ℕ → ℕ
  kept_at b d n = cond b (cond d (n + 1) n) n

  more : (b d : Bool) → count_at i (filter (λ m. not (p m)) xs) + count_at i (filter p xs) ≡ count_at i xs → count_at i (cond (not b) (x ∷ filter (λ m. not (p m)) xs) (filter (λ m. not (p m)) xs)) + count_at i (cond b (x ∷ filter p xs) (filter p xs)) ≡ cond (eqb x.place i) (count_at i xs + 1) (count_at i xs)
  more true d e = at (eqb x.place i) where
    at : (d : Bool) → count_at i (filter (λ m. not (p m)) xs) + cond d (count_at i (filter p xs) + 1) (count_at i (filter p xs)) ≡ cond d (count_at i xs + 1) (count_at i xs)
    at true = omega arith
    at false = e
  more false d e = at (eqb x.place i) where
    at : (d : Bool) → cond d (count_at i (filter (λ m. not (p m)) xs) + 1) (count_at i (filter (λ m. not (p m)) xs)) + count_at i (filter p xs) ≡ cond d (count_at i xs + 1) (count_at i xs)
    at true = omega arith
    at false = e

-- where at most one passes, whether there is one
pub one_if : (n : ℕ) → n ≤ 1 → cond (nat_lt 0 n) 1 0 ≡ n
one_if zero le = refl
one_if (suc n) le = let e : n ≡ 0 = omega arith in rw e refl

count_filter_place : (i p : ℕ) (xs : List Send) → p ≡ i → count_at i (filter (λ m. eqb m.place p) xs) ≡ count_at i xs
count_filter_place i p [] e = refl
count_filter_place i p (x ∷ xs) e = more (count_filter_place i p xs e) (eqb x.place i) refl where
  more : count_at i (filter (λ m. eqb m.place p) xs) ≡ count_at i xs → (b : Bool) → eqb x.place i ≡ b → count_at i (cond (eqb x.place p) (x ∷ filter (λ m. eqb m.place p) xs) (filter (λ m. eqb m.place p) xs)) ≡ cond b (count_at i xs + 1) (count_at i xs)
  more rest true k = let k' : eqb x.place p ≡ true = rw e k in rw (k', k, rest) refl
  more rest false k = let k' : eqb x.place p ≡ false = rw e k in rw (k', rest) refl

count_filter_other : (i p : ℕ) (xs : List Send) → (p ≡ i → ⊥) → count_at i (filter (λ m. eqb m.place p) xs) ≡ 0
count_filter_other i p [] ne = refl
count_filter_other i p (x ∷ xs) ne = more (count_filter_other i p xs ne) (eqb x.place p) refl where
  more : count_at i (filter (λ m. eqb m.place p) xs) ≡ 0 → (b : Bool) → eqb x.place p ≡ b → count_at i (cond b (x ∷ filter (λ m. eqb m.place p) xs) (filter (λ m. eqb m.place p) xs)) ≡ 0
  more rest true k = let k' : eqb x.place i ≡ false = ne_eqb x.place i (λ q. ne (sym (eqb-true _ _ k) ∙ q)) in rw k' rest
  more rest false k = rest

-- the next message is in the list
pub next_in : (xs : List Send) (n : Send) → next xs ≡ Some n → 1 ≤ count_at n.place xs
next_in [] n e = absurd cc
next_in (x ∷ xs) n e = found (next_in xs n) (next xs) refl e where
  here : x ≡ n → 1 ≤ count_at n.place (x ∷ xs)
  here same = let k : eqb x.place n.place ≡ true = eq-eqb _ _ (ap (λ m. m.place) same) in rw k (omega arith)

  there : 1 ≤ count_at n.place xs → (b : Bool) → 1 ≤ cond b (count_at n.place xs + 1) (count_at n.place xs)
  there le true = omega arith
  there le false = le

  found : (next xs ≡ Some n → 1 ≤ count_at n.place xs) → (o : Option Send) → next xs ≡ o → next (x ∷ xs) ≡ Some n → 1 ≤ count_at n.place (x ∷ xs)
  found rest None q k = here (let k' = rw q at k in cc)
  found rest (Some y) q k = chosen (ltb x.priority y.priority) (rw q at k) where
    chosen : (b : Bool) → cond b (Some y) (Some x) ≡ Some n → 1 ≤ count_at n.place (x ∷ xs)
    chosen true j = let same : y ≡ n = cc in there (rest (q ∙ ap Some same)) (eqb x.place n.place)
    chosen false j = here (let same : x ≡ n = cc in same)

-- what is taken and what is left
pub count_next : (i : ℕ) (xs : List Send) → count_at i xs ≤ 1 → (o : Option Send) → next xs ≡ o → count_at i (others o xs) + cond (stands_at (λ m. m.place) i o) 1 0 ≡ count_at i xs
count_next i xs le None e = omega arith
count_next i xs le (Some n) e = at (eqb n.place i) refl where
  parts : count_at i (filter (λ m. not (eqb m.place n.place)) xs) + count_at i (filter (λ m. eqb m.place n.place) xs) ≡ count_at i xs
  parts = count_parts i (λ m. eqb m.place n.place) xs

  at : (b : Bool) → eqb n.place i ≡ b → count_at i (filter (λ m. not (eqb m.place n.place)) xs) + cond b 1 0 ≡ count_at i xs
  at true k =
      let same : n.place ≡ i = eqb-true _ _ k in
      let all : count_at i (filter (λ m. eqb m.place n.place) xs) ≡ count_at i xs = count_filter_place i n.place xs same in
      let some : 1 ≤ count_at i xs = rw same at (next_in xs n e) in
      let whole = parts in
      omega arith
  at false k =
      let none : count_at i (filter (λ m. eqb m.place n.place) xs) ≡ 0 = count_filter_other i n.place xs (eqb-false _ _ k) in
      let whole = parts in
      omega arith

pub count_first : (i : ℕ) (xs : List Send) → count_at i (option_to_list (first xs)) + count_at i (tail xs) ≡ count_at i xs
count_first i [] = refl
count_first i (x ∷ xs) = at (eqb x.place i) where
  at : (b : Bool) → cond b (0 + 1) 0 + count_at i xs ≡ cond b (count_at i xs + 1) (count_at i xs)
  at true = omega arith
  at false = omega arith

-- one act keeps the sum
pub step_keeps : (maxmsg i : ℕ) (a : Act) (q : Queue) → count_at i q.senders ≤ 1 → count_at i q.contents ≤ 1 → count_at i (senders_after maxmsg a q) + cond (withdraws_at i a q) 1 0 + count_at i (contents_after maxmsg a q) + cond (takes_at maxmsg i a q) 1 0 ≡ count_at i q.senders + count_at i q.contents + cond (is_send_at i a) 1 0
step_keeps maxmsg i (Sends m) q le le' = at (is_filled maxmsg q.contents) (has_none q.receivers) where
  one : count_at i (m ∷ []) ≡ cond (eqb m.place i) 1 0
  one = at_one (eqb m.place i) where
    at_one : (b : Bool) → cond b (0 + 1) 0 ≡ cond b 1 0
    at_one true = refl
    at_one false = refl

  at : (f e : Bool) → count_at i (cond f (q.senders ++ m ∷ []) q.senders) + 0 + count_at i (cond (f || not e) q.contents (q.contents ++ m ∷ [])) + cond ((not f && not e) && eqb m.place i) 1 0 ≡ count_at i q.senders + count_at i q.contents + cond (eqb m.place i) 1 0
  at true e = let k = count_append i q.senders (m ∷ []) in let k' = one in omega arith
  at false true = let k = count_append i q.contents (m ∷ []) in let k' = one in omega arith
  at false false = omega arith
step_keeps maxmsg i (Receives w) q le le' =
    let k = count_append i (others (next q.contents) q.contents) (option_to_list (first q.senders)) in
    let k' = count_next i q.contents le' (next q.contents) refl in
    let k'' = count_first i q.senders in
    omega arith
step_keeps maxmsg i (Withdraws s) q le le' =
    let k = count_parts i (λ m. eqb m.session s) q.senders in
    let small : count_at i (filter (λ m. eqb m.session s) q.senders) ≤ 1 = omega arith in
    let k' = one_if (count_at i (filter (λ m. eqb m.session s) q.senders)) small in
    omega arith
step_keeps maxmsg i NoAct q le le' = omega arith
