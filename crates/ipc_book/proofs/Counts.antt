-- How often what stands at a place is in a list.
use Rattle.std.proofs.Common.{◌≡◌, ◌≢◌, ℕ, zero, suc, ◌+◌, ◌-◌, ◌<◌, ◌⊎◌, min, List, [], ◌∷◌, ◌++◌, Option, Some, None, length, set, slice_get, slice_index, refl, sym, ap, subst, ◌∙◌, inl, inr, arith, get_or-set_same, get_or-set_other}
use Rattle.std.specs.Prelude.{IsTrue, ◌↔◌, Bool, true, false, ◌&&◌, take, get_or, replicate}
use Rattle.std.proofs.lemmas.List.{get_or-replicate, take_more, append-nil}
use Rattle.std.proofs.lemmas.Grind.{flat_map-append}
use Rattle.ipc_book.specs.declared.entry.Entry.{Entry}
use Rattle.std.proofs.lemmas.Option.{get_or_from_slice_get, same_Some, none-some}
use Rattle.std.specs.Option.{option_map}
use Rattle.ipc_terms.specs.declared.record.Record.{Record}
use Rattle.ipc_policy.specs.Decides.History.{History, record_at}
use Rattle.ipc_policy.proofs.Histories.Moments.{place_below}
use Rattle.ipc_book.specs.Seats.{SeatView, IsInOrder}
use Rattle.ipc_book.specs.Closing.{entry_of, entry_at, IsInTrail, AllInTrail, Occurs, Counted, all_kept, AreTheTrail, FirstMissing}

place_by : (p : ℕ) (k : Entry) (o : Option Record) → option_map (entry_of p) o ≡ Some k → k.receipt.place ≡ p
place_by p k None e = absurd (none-some k e)
place_by p k (Some r) e = sym (ap (λ (x : Entry). x.receipt.place) (same_Some (entry_of p r) k e))

pub entry_place : (log : History) (p : ℕ) (k : Entry) → entry_at log p ≡ Some k → k.receipt.place ≡ p
entry_place log p k e = place_by p k (record_at p log) e

within_by : (log : History) (p : ℕ) (k : Entry) (o : Option Record) → record_at p log ≡ o → option_map (entry_of p) o ≡ Some k → p < length log
within_by log p k None is e = absurd (none-some k e)
within_by log p k (Some r) is e = place_below log p r is

pub standing_within : (log : History) (k : Entry) → IsInTrail log k → k.receipt.place < length log
standing_within log k e = within_by log k.receipt.place k (record_at k.receipt.place log) refl e

pub occurs-append : (log : History) (p : ℕ) (xs ys : List Entry) (n m : ℕ) → Occurs log p xs n → Occurs log p ys m → Occurs log p (xs ++ ys) (n + m)
occurs-append log p [] ys n m x y =
    let e : m ≡ n + m = omega arith in subst (Occurs log p ys) e y
occurs-append log p (k ∷ ks) ys n m x y =
    elim x [
      | inl h ↦ (let pos = h.1 in let e : n - 1 + m ≡ n + m - 1 = omega arith in inl (h.0, omega arith, subst (Occurs log p (ks ++ ys)) e (occurs-append log p ks ys (n - 1) m h.2 y)))
      | inr h ↦ inr (h.0, occurs-append log p ks ys n m h.1 y)
    ]

pub same_or : (p q : ℕ) → (p ≡ q) ⊎ (p ≢ q)
same_or zero zero = inl refl
same_or zero (suc q) = inr (λ e. omega arith)
same_or (suc p) zero = inr (λ e. omega arith)
same_or (suc p) (suc q) =
    elim (same_or p q) [ inl e ↦ inl (ap suc e) | inr away ↦ inr (λ e. away (omega arith)) ]

pub counted_hit : (log : History) (counts : List ℕ) (ks : List Entry) (k : Entry) (v : ℕ) → length counts ≡ length log → IsInTrail log k → v ≡ min 2 (slice_index counts k.receipt.place + 1) → Counted log counts ks → Counted log (set counts k.receipt.place v) (ks ++ k ∷ [])
counted_hit log counts ks k v same stand is h p lt =
    let at = k.receipt.place in
    let old = h p lt in
    elim (same_or p at) [
      | inl e ↦ (
          let here : entry_at log p ≡ Some k = subst (λ q. entry_at log q ≡ Some k) (sym e) stand in
          let in_range : at < length counts = omega arith in
          let now : slice_index (set counts at v) p ≡ v = ap (slice_index (set counts at v)) e ∙ get_or-set_same counts at v 0 in_range in
          let w : slice_index counts at ≡ min 2 old.0 = ap (slice_index counts) (sym e) ∙ old.2 in
          let sum : min 2 (slice_index counts at + 1) ≡ min 2 (old.0 + 1) = omega arith in
          (old.0 + 1, occurs-append log p ks (k ∷ []) old.0 1 old.1 (inl (here, omega arith, omega arith)), now ∙ is ∙ sum)
          )
      | inr other ↦ (
          let away : entry_at log p ≢ Some k = λ e. other (sym (entry_place log p k e)) in
          let none : old.0 + 0 ≡ old.0 = omega arith in
          (old.0, subst (Occurs log p (ks ++ k ∷ [])) none (occurs-append log p ks (k ∷ []) old.0 0 old.1 (inr (away, refl))), get_or-set_other counts at p v 0 other ∙ old.2)
          )
    ]

pub counted_miss : (log : History) (counts : List ℕ) (ks : List Entry) (k : Entry) → (IsInTrail log k → ⊥) → Counted log counts ks → Counted log counts (ks ++ k ∷ [])
counted_miss log counts ks k away h p lt =
    let old = h p lt in
    let no : entry_at log p ≢ Some k = λ e. away (subst (λ q. entry_at log q ≡ Some k) (sym (entry_place log p k e)) e) in
    let none : old.0 + 0 ≡ old.0 = omega arith in
    (old.0, subst (Occurs log p (ks ++ k ∷ [])) none (occurs-append log p ks (k ∷ []) old.0 0 old.1 (inr (no, refl))), old.2)

pub all_stand_push : (log : History) (xs : List Entry) (k : Entry) → AllInTrail log xs → IsInTrail log k → AllInTrail log (xs ++ k ∷ [])
all_stand_push log [] k h s = (s, tt)
all_stand_push log (x ∷ xs) k h s = (h.0, all_stand_push log xs k h.1 s)

pub all_stand_parts : (log : History) (xs ys : List Entry) → AllInTrail log (xs ++ ys) → AllInTrail log xs × AllInTrail log ys
all_stand_parts log [] ys h = (tt, h)
all_stand_parts log (x ∷ xs) ys h = let t = all_stand_parts log xs ys h.1 in ((h.0, t.0), t.1)

pub all_stand_append : (log : History) (xs ys : List Entry) → AllInTrail log xs → AllInTrail log ys → AllInTrail log (xs ++ ys)
all_stand_append log [] ys h g = g
all_stand_append log (x ∷ xs) ys h g = (h.0, all_stand_append log xs ys h.1 g)

pub stand_step : (log : History) (xs : List Entry) (k : Entry) (b all all' : Bool) → all' ≡ (b && all) → (IsTrue b ↔ IsInTrail log k) → (all ≡ true → AllInTrail log xs) → all' ≡ true → AllInTrail log (xs ++ k ∷ [])
stand_step log xs k true all all' e s h t = all_stand_push log xs k (h (sym e ∙ t)) (s.0 refl)
stand_step log xs k false all all' e s h t = absurd (let u : false ≡ true = sym e ∙ t in cc)

pub fall_step : (log : History) (xs : List Entry) (k : Entry) (b all all' : Bool) → all' ≡ (b && all) → (IsTrue b ↔ IsInTrail log k) → (all ≡ false → AllInTrail log xs → ⊥) → all' ≡ false → AllInTrail log (xs ++ k ∷ []) → ⊥
fall_step log xs k true all all' e s h t g = h (sym e ∙ t) (all_stand_parts log xs (k ∷ []) g).0
fall_step log xs k false all all' e s h t g =
    let u : false ≡ true = s.1 (all_stand_parts log xs (k ∷ []) g).1.0 in cc

pub one_more : (items : List Entry) (i : ℕ) (x : Entry) → i < length items → x ≡ get_or items i x → take (i + 1) items ≡ take i items ++ x ∷ []
one_more items i x lt is =
    take_more items i x lt ∙ ap (λ v. take i items ++ v ∷ []) (sym is)

pub counted_along : (log : History) (counts : List ℕ) (ks xs ys : List Entry) → ys ≡ xs → Counted log counts (ks ++ xs) → Counted log counts (ks ++ ys)
counted_along log counts ks xs ys e h =
    subst (λ v. Counted log counts (ks ++ v)) (sym e) h

pub all_more : (seats : List SeatView) (i : ℕ) (x : SeatView) → i < length seats → x ≡ get_or seats i x → all_kept (take (i + 1) seats) ≡ all_kept (take i seats) ++ x.list
all_more seats i x lt is =
    ap all_kept (take_more seats i x lt ∙ ap (λ v. take i seats ++ v ∷ []) (sym is)) ∙ flat_map-append (λ (s : SeatView). s.list) (take i seats) (x ∷ []) ∙ ap (λ v. all_kept (take i seats) ++ v) (append-nil x.list)

-- the steps of the outer loop, by the list of one seat
pub stand_list : (log : History) (xs ys : List Entry) (b all all' : Bool) → all' ≡ (b && all) → (b ≡ true → AllInTrail log ys) → (all ≡ true → AllInTrail log xs) → all' ≡ true → AllInTrail log (xs ++ ys)
stand_list log xs ys true all all' e s h t = all_stand_append log xs ys (h (sym e ∙ t)) (s refl)
stand_list log xs ys false all all' e s h t = absurd (let u : false ≡ true = sym e ∙ t in cc)

pub fall_list : (log : History) (xs ys : List Entry) (b all all' : Bool) → all' ≡ (b && all) → (b ≡ false → AllInTrail log ys → ⊥) → (all ≡ false → AllInTrail log xs → ⊥) → all' ≡ false → AllInTrail log (xs ++ ys) → ⊥
fall_list log xs ys true all all' e s h t g = h (sym e ∙ t) (all_stand_parts log xs ys g).0
fall_list log xs ys false all all' e s h t g = s refl (all_stand_parts log xs ys g).1

pub counted_none : (log : History) (counts : List ℕ) → counts ≡ replicate (length log) 0 → Counted log counts []
counted_none log counts is p lt = (0, refl, ap (λ v. slice_index v p) is ∙ get_or-replicate (length log) p 0 0 lt)

pub occurs_once : (log : History) (counts : List ℕ) (ks : List Entry) (p : ℕ) → Counted log counts ks → p < length log → slice_index counts p ≡ 1 → Occurs log p ks 1
occurs_once log counts ks p h lt one =
    let t = h p lt in
    let m : min 2 t.0 ≡ 1 = sym t.2 ∙ one in
    let n : t.0 ≡ 1 = omega arith in subst (Occurs log p ks) n t.1

pub occurs_amiss : (log : History) (counts : List ℕ) (ks : List Entry) (p : ℕ) → Counted log counts ks → p < length log → (slice_index counts p ≡ 1 → ⊥) → (n : ℕ) × Occurs log p ks n × (n ≢ 1)
occurs_amiss log counts ks p h lt other =
    let t = h p lt in (t.0, t.1, λ e. other (t.2 ∙ ap (min 2) e))

pub order_more : (seats : List SeatView) (i : ℕ) (x : SeatView) → x ≡ get_or seats i x → IsInOrder x.list → ((j : ℕ) (s : SeatView) → j < i → slice_get seats j ≡ Some s → IsInOrder s.list) → (j : ℕ) (s : SeatView) → j < i + 1 → slice_get seats j ≡ Some s → IsInOrder s.list
order_more seats i x is rise before j s lt at =
    elim (same_or j i) [
      | inl e ↦ (let eq : x ≡ s = is ∙ get_or_from_slice_get seats i s x (ap (slice_get seats) (sym e) ∙ at) in subst (λ (v : SeatView). IsInOrder v.list) eq rise)
      | inr other ↦ before j s (omega arith) at
    ]

pub closes_by : (log : History) (counts : List ℕ) (seats : List SeatView) → length counts ≡ length log → Counted log counts (all_kept seats) → ((p : ℕ) → p < length counts → slice_index counts p ≡ 1) → AllInTrail log (all_kept seats) → ((i : ℕ) (s : SeatView) → slice_get seats i ≡ Some s → IsInOrder s.list) → AreTheTrail log seats
closes_by log counts seats len h one stand order =
    record { stand = stand; once = λ p lt. occurs_once log counts (all_kept seats) p h lt (one p (omega arith)); order = order }

pub misses_here : (log : History) (counts : List ℕ) (ks : List Entry) (p : ℕ) → length counts ≡ length log → Counted log counts ks → p < length counts → (slice_index counts p ≢ 1) → ((q : ℕ) → q < p → slice_index counts q ≡ 1) → FirstMissing log ks p
misses_here log counts ks p len h lt other before =
    record {
      before = λ q less. occurs_once log counts ks q h (omega arith) (before q less);
      within = omega arith;
      here = λ w. occurs_amiss log counts ks p h w other;
      past = λ e. absurd (omega arith);
    }

pub misses_past : (log : History) (counts : List ℕ) (ks : List Entry) (p : ℕ) → length counts ≡ length log → Counted log counts ks → p ≡ length log → ((q : ℕ) → q < length counts → slice_index counts q ≡ 1) → (AllInTrail log ks → ⊥) → FirstMissing log ks p
misses_past log counts ks p len h at one away =
    record {
      before = λ q less. occurs_once log counts ks q h (omega arith) (one q (omega arith));
      within = omega arith;
      here = λ w. absurd (omega arith);
      past = λ e. away;
    }
