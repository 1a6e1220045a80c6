-- Where messages stand in buckets by priority, and what an entry or a leaving does to it.
use Rattle.std.proofs.Common.{◌≡◌, ⊎_elim, ℕ, ◌==◌, ◌<◌, Bool, true, false, cond, nat_lt, ◌&&◌, List, [], ◌∷◌, ◌++◌, length, drop, Option, Some, None, refl, sym, ap, ◌∙◌, arith}
use Rattle.std.proofs.lemmas.Bool.{eqb-true, eqb-false, eq-eqb, ne_eqb, ltb-true, ltb-false, cases_lt}
use Rattle.std.specs.Prelude.{filter}
use Rattle.ipc_terms.specs.Lists.{without_first}
use Rattle.ipc_containers.specs.Buckets.{IsFirstOfGreatest}
use Rattle.ipc_queue.specs.declared.queue.Ticket.{Ticket}
use Rattle.ipc_queue.specs.Tickets.{is_ticket, without_next, next_ticket}
use Rattle.ipc_queue.specs.Contents.{of_priority}
use Rattle.ipc_queue.proofs.Greatest.{earlier, first_is, no_first}
use Rattle.ipc_queue.proofs.Leaving.{without_next_is}

abbrev priority_of : Ticket → ℕ
priority_of t = t.priority

-- ---- the tickets of a priority
pub priority_filtered : (q : ℕ) (ts : List Ticket) → filter (λ t. q == t.priority) ts ≡ of_priority q ts
priority_filtered q [] = refl
priority_filtered q (t ∷ ts) = ap (λ l. cond (q == t.priority) (t ∷ l) l) (priority_filtered q ts)

-- one more ticket at the end
pub priority_push : (q : ℕ) (ts : List Ticket) (t : Ticket) → of_priority q (ts ++ t ∷ []) ≡ cond (q == t.priority) (of_priority q ts ++ t ∷ []) (of_priority q ts)
priority_push q [] t = refl
priority_push q (u ∷ us) t = by (q == u.priority) (q == t.priority) (priority_push q us t) where
  by : (b c : Bool) → of_priority q (us ++ t ∷ []) ≡ cond c (of_priority q us ++ t ∷ []) (of_priority q us) → cond b (u ∷ of_priority q (us ++ t ∷ [])) (of_priority q (us ++ t ∷ [])) ≡ cond c (cond b (u ∷ of_priority q us) (of_priority q us) ++ t ∷ []) (cond b (u ∷ of_priority q us) (of_priority q us))
  by true true e = ap (λ l. u ∷ l) e
  by true false e = ap (λ l. u ∷ l) e
  by false true e = e
  by false false e = e

turned : (a b : ℕ) (c : Bool) → (a == b) ≡ c → (b == a) ≡ c
turned a b true e = eq-eqb b a (sym (eqb-true a b e))
turned a b false e = ne_eqb b a (λ same. eqb-false a b e (sym same))

-- the first of its priority leaves
priority_left : (t : Ticket) (ts : List Ticket) (rest : List Ticket) → of_priority t.priority ts ≡ t ∷ rest → of_priority t.priority (without_first (is_ticket t) ts) ≡ rest
priority_left t [] rest e = absurd cc
priority_left t (u ∷ us) rest e = by (t.priority == u.priority) (u.place == t.place) refl refl e (λ k. priority_left t us rest k) where
  by : (b c : Bool) → (t.priority == u.priority) ≡ b → (u.place == t.place) ≡ c → cond b (u ∷ of_priority t.priority us) (of_priority t.priority us) ≡ t ∷ rest → (of_priority t.priority us ≡ t ∷ rest → of_priority t.priority (without_first (is_ticket t) us) ≡ rest) → of_priority t.priority (cond ((u.place == t.place) && (u.priority == t.priority)) us (u ∷ without_first (is_ticket t) us)) ≡ rest
  by true true f g k behind = rw (g, turned t.priority u.priority true f) cc
  by true false f g k behind = let is : u ≡ t = cc in absurd (eqb-false u.place t.place g (ap (λ (v : Ticket). v.place) is))
  by false true f g k behind = rw (g, turned t.priority u.priority false f, f) (behind k)
  by false false f g k behind = rw (g, f) (behind k)

-- those of other priorities stay
priority_stay : (q : ℕ) (t : Ticket) (ts : List Ticket) → (q == t.priority) ≡ false → of_priority q (without_first (is_ticket t) ts) ≡ of_priority q ts
priority_stay q t [] other = refl
priority_stay q t (u ∷ us) other = by (u.place == t.place) (u.priority == t.priority) refl (ap (λ l. cond (q == u.priority) (u ∷ l) l) (priority_stay q t us other)) where
  apart : (u.priority == t.priority) ≡ true → (q == u.priority) ≡ false
  apart f = ne_eqb q u.priority (λ same. eqb-false q t.priority other (same ∙ eqb-true u.priority t.priority f))

  by : (b c : Bool) → (u.priority == t.priority) ≡ c → of_priority q (u ∷ without_first (is_ticket t) us) ≡ of_priority q (u ∷ us) → of_priority q (cond (b && c) us (u ∷ without_first (is_ticket t) us)) ≡ of_priority q (u ∷ us)
  by true true f kept = rw (apart f) refl
  by true false f kept = kept
  by false c f kept = kept

-- ---- the next ticket
no_tickets : (ts : List Ticket) → length ts ≡ 0 → (q : ℕ) → of_priority q ts ≡ []
no_tickets [] e q = refl
no_tickets (t ∷ ts) e q = absurd (omega arith)

-- none is of a greater priority
none_above : (ts : List Ticket) (next : Ticket) (q : ℕ) → next_ticket ts ≡ Some next → next.priority < q → of_priority q ts ≡ []
none_above [] next q e lt = refl
none_above (t ∷ ts) next q e lt = by_rest (next_ticket ts) refl (sym (first_is priority_of t ts (next_ticket ts) refl) ∙ e) (λ y k less. none_above ts y q k less) where
  not_it : t.priority < q → of_priority q ts ≡ [] → of_priority q (t ∷ ts) ≡ []
  not_it less none = rw (ne_eqb q t.priority (λ same. omega arith)) none

  by_test : (b : Bool) (y : Ticket) → next_ticket ts ≡ Some y → nat_lt t.priority y.priority ≡ b → cond b (Some y) (Some t) ≡ Some next → ((z : Ticket) → next_ticket ts ≡ Some z → z.priority < q → of_priority q ts ≡ []) → of_priority q (t ∷ ts) ≡ []
  by_test true y e f k behind = let is : y ≡ next = cc in let same = ap priority_of is in let less = ltb-true t.priority y.priority f in not_it (omega arith) (behind y e (omega arith))
  by_test false y e f k behind = let is : t ≡ next = cc in let same = ap priority_of is in let least = ltb-false t.priority y.priority f in not_it (omega arith) (behind y e (omega (arith, least, same, lt)))

  by_rest : (rest : Option Ticket) → next_ticket ts ≡ rest → earlier priority_of t rest ≡ Some next → ((z : Ticket) → next_ticket ts ≡ Some z → z.priority < q → of_priority q ts ≡ []) → of_priority q (t ∷ ts) ≡ []
  by_rest None e k behind = let is : t ≡ next = cc in let same = ap priority_of is in not_it (omega arith) (no_tickets ts (no_first priority_of ts e) q)
  by_rest (Some y) e k behind = by_test (nat_lt t.priority y.priority) y e refl k behind

-- it is the first of its priority
next_is_first : (ts : List Ticket) (next : Ticket) → next_ticket ts ≡ Some next → (rest : List Ticket) × (of_priority next.priority ts ≡ next ∷ rest)
next_is_first [] next e = absurd cc
next_is_first (t ∷ ts) next e = by_rest (next_ticket ts) refl (sym (first_is priority_of t ts (next_ticket ts) refl) ∙ e) (λ k. next_is_first ts next k) where
  own : t ≡ next → (rest : List Ticket) × (of_priority next.priority (t ∷ ts) ≡ next ∷ rest)
  own is = (of_priority next.priority ts, rw (eq-eqb next.priority t.priority (ap priority_of (sym is))) (ap (λ (v : Ticket). v ∷ of_priority next.priority ts) is))

  by_test : (b : Bool) (y : Ticket) → next_ticket ts ≡ Some y → nat_lt t.priority y.priority ≡ b → cond b (Some y) (Some t) ≡ Some next → (next_ticket ts ≡ Some next → (rest : List Ticket) × (of_priority next.priority ts ≡ next ∷ rest)) → (rest : List Ticket) × (of_priority next.priority (t ∷ ts) ≡ next ∷ rest)
  by_test true y e f k behind =
      let is : y ≡ next = cc in
      let same = ap priority_of is in
      let less = ltb-true t.priority y.priority f in
      let found = behind (e ∙ k) in
      (found.0, rw (ne_eqb next.priority t.priority (λ alike. omega arith)) found.1)
  by_test false y e f k behind = own cc

  by_rest : (rest : Option Ticket) → next_ticket ts ≡ rest → earlier priority_of t rest ≡ Some next → (next_ticket ts ≡ Some next → (rest : List Ticket) × (of_priority next.priority ts ≡ next ∷ rest)) → (rest : List Ticket) × (of_priority next.priority (t ∷ ts) ≡ next ∷ rest)
  by_rest None e k behind = own cc
  by_rest (Some y) e k behind = by_test (nat_lt t.priority y.priority) y e refl k behind

-- the first of the greatest bucket is the next
pub next_found : (ts : List Ticket) (priority : ℕ) (ticket : Ticket) → IsFirstOfGreatest (λ q. of_priority q ts) (Some (priority, ticket)) → (next_ticket ts ≡ Some ticket) × (ticket.priority ≡ priority)
next_found ts priority ticket is = by (next_ticket ts) refl where
  by_order : (next : Ticket) → next_ticket ts ≡ Some next → (rest : List Ticket) × (of_priority next.priority ts ≡ next ∷ rest) → next.priority ≡ priority
  by_order next e found =
      ⊎_elim (λ less. absurd (let no = sym (none_above ts next priority e less) ∙ is.0.1 in cc))
      (λ least. ⊎_elim (λ more. absurd (let no = sym (is.1 next.priority more) ∙ found.1 in cc)) (λ most. omega (arith, least, most)) (cases_lt priority next.priority))
      (cases_lt next.priority priority)

  by : (o : Option Ticket) → next_ticket ts ≡ o → (next_ticket ts ≡ Some ticket) × (ticket.priority ≡ priority)
  by None e = absurd (let no = sym (no_tickets ts (no_first priority_of ts e) priority) ∙ is.0.1 in cc)
  by (Some next) e =
      let found = next_is_first ts next e in
      let same = by_order next e found in
      let both : next ∷ found.0 ≡ ticket ∷ is.0.0 = sym found.1 ∙ ap (λ q. of_priority q ts) same ∙ is.0.1 in
      let it : next ≡ ticket = cc in
      (e ∙ ap (λ (t : Ticket). Some t) it, ap priority_of (sym it) ∙ same)

-- where no bucket has a ticket there is no next
pub no_next : (ts : List Ticket) → IsFirstOfGreatest (λ q. of_priority q ts) None → next_ticket ts ≡ None
no_next ts none = by (next_ticket ts) refl where
  by : (o : Option Ticket) → next_ticket ts ≡ o → next_ticket ts ≡ None
  by None e = e
  by (Some next) e = let found = next_is_first ts next e in absurd (let no = sym (none next.priority) ∙ found.1 in cc)

-- ---- what leaves
-- the next leaves its bucket
pub priority_without_next : (ts : List Ticket) (next : Ticket) (q : ℕ) → next_ticket ts ≡ Some next → of_priority q (without_next ts) ≡ cond (q == next.priority) (drop 1 (of_priority q ts)) (of_priority q ts)
priority_without_next ts next q e = ap (λ us. of_priority q us) (without_next_is ts next e) ∙ by (q == next.priority) refl where
  by : (b : Bool) → (q == next.priority) ≡ b → of_priority q (without_first (is_ticket next) ts) ≡ cond b (drop 1 (of_priority q ts)) (of_priority q ts)
  by true f =
      let same = eqb-true q next.priority f in
      let found = next_is_first ts next e in
      ap (λ p. of_priority p (without_first (is_ticket next) ts)) same ∙ priority_left next ts found.0 found.1 ∙ ap (λ l. drop 1 l) (sym found.1) ∙ ap (λ p. drop 1 (of_priority p ts)) (sym same)
  by false f = priority_stay q next ts f

-- the next leaves its bucket, behind whose first another may have entered
pub priority_exchanged : (ts : List Ticket) (next t : Ticket) (q : ℕ) → next_ticket ts ≡ Some next → of_priority q (without_next ts ++ t ∷ []) ≡ cond (q == next.priority) (drop 1 (of_priority q (ts ++ t ∷ []))) (of_priority q (ts ++ t ∷ []))
priority_exchanged ts next t q e =
    priority_push q (without_next ts) t
    ∙ ap (λ l. cond (q == t.priority) (l ++ t ∷ []) l) (priority_without_next ts next q e)
    ∙ by (q == next.priority) refl
    ∙ ap (λ l. cond (q == next.priority) (drop 1 l) l) (sym (priority_push q ts t)) where
      behind : (b : Bool) (x : Ticket) (rest ps : List Ticket) → ps ≡ x ∷ rest → cond b (drop 1 ps ++ t ∷ []) (drop 1 ps) ≡ drop 1 (cond b (ps ++ t ∷ []) ps)
      behind true x rest [] f = absurd cc
      behind true x rest (p ∷ ps) f = refl
      behind false x rest ps f = refl

      by : (b : Bool) → (q == next.priority) ≡ b → cond (q == t.priority) (cond b (drop 1 (of_priority q ts)) (of_priority q ts) ++ t ∷ []) (cond b (drop 1 (of_priority q ts)) (of_priority q ts)) ≡ cond b (drop 1 (cond (q == t.priority) (of_priority q ts ++ t ∷ []) (of_priority q ts))) (cond (q == t.priority) (of_priority q ts ++ t ∷ []) (of_priority q ts))
      by true f =
          let found = next_is_first ts next e in
          behind (q == t.priority) next found.0 (of_priority q ts) (ap (λ p. of_priority p ts) (eqb-true q next.priority f) ∙ found.1)
      by false f = refl
