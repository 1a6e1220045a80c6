-- The contents, place by place.
use Rattle.std.proofs.Common.{◌≡◌, ℕ, ◌+◌, ◌≤◌, Bool, true, false, not, ◌&&◌, ◌||◌, eqb, List, [], ◌∷◌, ◌++◌, length, cond, Option, Some, None, refl, sym, ap, ◌∙◌, arith}
use Rattle.std.specs.Prelude.{filter, is_some}
use Rattle.std.specs.Option.{option_or, option_to_list}
use Rattle.std.proofs.lemmas.Bool.{eqb-true, eqb-false, eq-eqb, ne_eqb}
use Rattle.ipc_terms.specs.Lists.{first}
use Rattle.ipc_terms.specs.declared.rule.Rule.{Rule}
use Rattle.ipc_terms.specs.declared.record.Event.{Event}
use Rattle.ipc_policy.specs.declared.config.Config.{Config}
use Rattle.ipc_policy.specs.Decides.History.{History, unless, unended}
use Rattle.ipc_policy.specs.Decides.Queues.{Send, Act, Sends, Receives, Withdraws, NoAct, Queue, is_filled, has_none, next, others, contents_after, maxmsg}
use Rattle.ipc_policy.specs.Decides.Bodies.{act, queue, contents}
use Rattle.ipc_policy.specs.Decides.Parking.{stands_at}
use Rattle.ipc_policy.specs.Follows.Readings.{of_place, entering, takes, stays, EachInsideByPlace}
use Rattle.ipc_policy.proofs.Lists.PlaceLists.{found_append, found_place}
use Rattle.ipc_policy.proofs.Lists.Counting.{count_at, next_in}
use Rattle.ipc_policy.proofs.Queues.Keeping.{sent_once, sent_later}
use Rattle.ipc_policy.proofs.Blocked.ParkedPlaces.{HasPlace, act_place}
use Rattle.ipc_policy.proofs.Holdings.Holding.{kept_all}

-- none of a place, none found
pub found_none : (i : ℕ) (xs : List Send) → count_at i xs ≡ 0 → of_place (λ (m : Send). m.place) i xs ≡ None
found_none i [] e = refl
found_none i (x ∷ xs) e = more (eqb x.place i) e (found_none i xs) where
  more : (b : Bool) → cond b (count_at i xs + 1) (count_at i xs) ≡ 0 → (count_at i xs ≡ 0 → of_place (λ (m : Send). m.place) i xs ≡ None) → cond b (Some x) (of_place (λ (m : Send). m.place) i xs) ≡ None
  more true k rest = absurd (omega arith)
  more false k rest = rest k

-- without those of a place
pub found_others : (i p : ℕ) (xs : List Send) → of_place (λ (m : Send). m.place) i (filter (λ m. not (eqb m.place p)) xs) ≡ unless (λ m. eqb p m.place) (of_place (λ (m : Send). m.place) i xs)
found_others i p [] = refl
found_others i p (x ∷ xs) = more (eqb x.place p) refl (eqb x.place i) refl (found_others i p xs) where
  more : (b : Bool) → eqb x.place p ≡ b → (d : Bool) → eqb x.place i ≡ d → of_place (λ (m : Send). m.place) i (filter (λ m. not (eqb m.place p)) xs) ≡ unless (λ m. eqb p m.place) (of_place (λ (m : Send). m.place) i xs) → of_place (λ (m : Send). m.place) i (cond (not b) (x ∷ filter (λ m. not (eqb m.place p)) xs) (filter (λ m. not (eqb m.place p)) xs)) ≡ unless (λ m. eqb p m.place) (cond d (Some x) (of_place (λ (m : Send). m.place) i xs))
  more true k true e rest = rest ∙ gone (of_place (λ (m : Send). m.place) i xs) refl ∙ sym (let here : eqb p x.place ≡ true = eq-eqb _ _ (sym (eqb-true _ _ k)) in rw here refl) where
    gone : (o : Option Send) → of_place (λ (m : Send). m.place) i xs ≡ o → unless (λ m. eqb p m.place) o ≡ None
    gone None q = refl
    gone (Some y) q =
        let same : eqb p y.place ≡ true = eq-eqb _ _ (sym (eqb-true _ _ k) ∙ eqb-true _ _ e ∙ sym (found_place (λ (m : Send). m.place) i xs y q)) in
        rw same refl
  more true k false e rest = rest
  more false k true e rest = let no : eqb p x.place ≡ false = ne_eqb _ _ (λ (q : p ≡ x.place). eqb-false _ _ k (sym q)) in rw (e, no) refl
  more false k false e rest = rw e rest

-- what is not there stays out
not_kept : (i p : ℕ) (xs : List Send) → (p ≡ i → of_place (λ (m : Send). m.place) i xs ≡ None) → (b : Bool) → unless (λ m. b && eqb p m.place) (of_place (λ (m : Send). m.place) i xs) ≡ of_place (λ (m : Send). m.place) i xs
not_kept i p xs h b = at (of_place (λ (m : Send). m.place) i xs) refl where
  at : (o : Option Send) → of_place (λ (m : Send). m.place) i xs ≡ o → unless (λ m. b && eqb p m.place) o ≡ o
  at None q = refl
  at (Some y) q = passed b (eqb p y.place) refl where
    passed : (b d : Bool) → eqb p y.place ≡ d → cond (b && d) None (Some y) ≡ Some y
    passed true true e = let none = h (eqb-true _ _ e ∙ found_place (λ (m : Send). m.place) i xs y q) in absurd cc
    passed true false e = refl
    passed false d e = refl

or_swap : {A : Type 0} (o w : Option A) → (is_some w ≡ true → o ≡ None) → option_or o w ≡ option_or w o
or_swap None None h = refl
or_swap None (Some x) h = refl
or_swap (Some y) None h = refl
or_swap (Some y) (Some x) h = absurd (let e = h refl in cc)

pub first_in : (xs : List Send) (y : Send) → first xs ≡ Some y → 1 ≤ count_at y.place xs
first_in [] y e = absurd cc
first_in (x ∷ xs) y e =
    let same : x ≡ y = cc in
    let here : eqb x.place y.place ≡ true = eq-eqb _ _ (ap (λ (m : Send). m.place) same) in
    rw here (omega arith)

found_end : (i : ℕ) (xs : List Send) → of_place (λ (m : Send). m.place) i (xs ++ []) ≡ of_place (λ (m : Send). m.place) i xs
found_end i [] = refl
found_end i (x ∷ xs) = ap (λ o. cond (eqb x.place i) (Some x) o) (found_end i xs)

left_over : (i : ℕ) (xs : List Send) (o : Option Send) → of_place (λ (m : Send). m.place) i (others o xs) ≡ unless (λ m. stands_at (λ (n : Send). n.place) m.place o) (of_place (λ (m : Send). m.place) i xs)
left_over i xs None = sym (kept_all (of_place (λ (m : Send). m.place) i xs))
left_over i xs (Some x) = found_others i x.place xs

kept_nothing : {A : Type 0} (p : A → Bool) (o : Option A) → o ≡ None → unless p o ≡ None
kept_nothing p o e = rw e refl

kept_fails : {A : Type 0} (p : A → Bool) (x : A) (d : Bool) → p x ≡ false → unless p (cond d (Some x) None) ≡ cond d (Some x) None
kept_fails p x true e = rw e refl
kept_fails p x false e = refl

receive_inside : (i : ℕ) (xs ss : List Send) → ((j : ℕ) → count_at j ss + count_at j xs ≤ 1) → (y : Send) → first ss ≡ Some y → of_place (λ (m : Send). m.place) i (others (next xs) xs ++ y ∷ []) ≡ option_or (unless (λ m. stands_at (λ (n : Send). n.place) m.place (next xs)) (cond (eqb y.place i) (Some y) None)) (unless (λ m. stands_at (λ (n : Send). n.place) m.place (next xs)) (of_place (λ (m : Send). m.place) i xs))
receive_inside i xs ss one y e =
    found_append (λ (m : Send). m.place) i (others (next xs) xs) y
    ∙ or_swap (of_place (λ (m : Send). m.place) i (others (next xs) xs)) (cond (eqb y.place i) (Some y) None) (fresh (eqb y.place i) refl)
    ∙ ap (λ o. option_or o (of_place (λ (m : Send). m.place) i (others (next xs) xs))) (sym (kept_fails (λ m. stands_at (λ (n : Send). n.place) m.place (next xs)) y (eqb y.place i) (other (next xs) refl)))
    ∙ ap (option_or (unless (λ m. stands_at (λ (n : Send). n.place) m.place (next xs)) (cond (eqb y.place i) (Some y) None))) (left_over i xs (next xs)) where
      fresh : (d : Bool) → eqb y.place i ≡ d → is_some {T = Send} (cond d (Some y) None) ≡ true → of_place (λ (m : Send). m.place) i (others (next xs) xs) ≡ None
      fresh true k _ =
          let same : y.place ≡ i = eqb-true _ _ k in
          let there : 1 ≤ count_at i ss = rw same at (first_in ss y e) in
          let most = one i in
          let none : count_at i xs ≡ 0 = omega arith in
          left_over i xs (next xs) ∙ kept_nothing (λ m. stands_at (λ (n : Send). n.place) m.place (next xs)) (of_place (λ (m : Send). m.place) i xs) (found_none i xs none)
      fresh false k j = absurd cc

      other : (o : Option Send) → next xs ≡ o → stands_at (λ (n : Send). n.place) y.place o ≡ false
      other None q = refl
      other (Some x) q = ne_eqb _ _ (λ (k : x.place ≡ y.place).
          let inside : 1 ≤ count_at y.place xs = rw k at (next_in xs x q) in
          let parked = first_in ss y e in
          let most = one y.place in
          absurd (omega arith))

inside_step : (maxmsg n i : ℕ) (a : Act) (q : Queue) → HasPlace n a → count_at n q.contents ≡ 0 → ((j : ℕ) → count_at j q.senders + count_at j q.contents ≤ 1) → of_place (λ (m : Send). m.place) i (contents_after maxmsg a q) ≡ option_or (stays maxmsg i a q) (unless (λ m. takes m a q) (of_place (λ (m : Send). m.place) i q.contents))
inside_step maxmsg n i (Sends m) q p new one = at (is_filled maxmsg q.contents) (has_none q.receivers) where
  none : m.place ≡ i → of_place (λ (m : Send). m.place) i q.contents ≡ None
  none e = found_none i q.contents (let same : n ≡ i = sym p ∙ e in rw same at new)

  same : (b : Bool) → of_place (λ (m : Send). m.place) i q.contents ≡ unless (λ x. b && eqb m.place x.place) (of_place (λ (m : Send). m.place) i q.contents)
  same b = sym (not_kept i m.place q.contents none b)

  taken_at_once : (d : Bool) → unless (λ x. eqb m.place x.place) (cond d (Some m) None) ≡ None
  taken_at_once true = let here : eqb m.place m.place ≡ true = eq-eqb _ _ refl in rw here refl
  taken_at_once false = refl

  entered : (d : Bool) → unless (λ (x : Send). false) (cond d (Some m) None) ≡ cond d (Some m) None
  entered d = kept_all (cond d (Some m) None)

  some_of : (d : Bool) → eqb m.place i ≡ d → is_some {T = Send} (cond d (Some m) None) ≡ true → of_place (λ (m : Send). m.place) i q.contents ≡ None
  some_of true e k = none (eqb-true _ _ e)
  some_of false e k = absurd cc

  at : (f r : Bool) → of_place (λ (m : Send). m.place) i (cond (f || not r) q.contents (q.contents ++ m ∷ [])) ≡ option_or (unless (λ x. not r && eqb m.place x.place) (cond (not f && eqb m.place i) (Some m) None)) (unless (λ x. not r && eqb m.place x.place) (of_place (λ (m : Send). m.place) i q.contents))
  at true r = same (not r)
  at false true =
      found_append (λ (m : Send). m.place) i q.contents m
      ∙ or_swap (of_place (λ (m : Send). m.place) i q.contents) (cond (eqb m.place i) (Some m) None) (some_of (eqb m.place i) refl)
      ∙ ap (λ x. option_or x (of_place (λ (m : Send). m.place) i q.contents)) (sym (entered (eqb m.place i)))
      ∙ ap (option_or (unless (λ (x : Send). false) (cond (eqb m.place i) (Some m) None))) (sym (kept_all (of_place (λ (m : Send). m.place) i q.contents)))
  at false false = same true ∙ ap (λ x. option_or x (unless (λ x. eqb m.place x.place) (of_place (λ (m : Send). m.place) i q.contents))) (sym (taken_at_once (eqb m.place i)))
inside_step maxmsg n i (Receives w) q p new one = at (first q.senders) refl where
  at : (o : Option Send) → first q.senders ≡ o → of_place (λ (m : Send). m.place) i (others (next q.contents) q.contents ++ option_to_list o) ≡ option_or (unless (λ m. stands_at (λ (n : Send). n.place) m.place (next q.contents)) (entering i o)) (unless (λ m. stands_at (λ (n : Send). n.place) m.place (next q.contents)) (of_place (λ (m : Send). m.place) i q.contents))
  at None e = found_end i (others (next q.contents) q.contents) ∙ left_over i q.contents (next q.contents)
  at (Some y) e = receive_inside i q.contents q.senders one y e
inside_step maxmsg n i (Withdraws s) q p new one = sym (kept_all (of_place (λ (m : Send). m.place) i q.contents))
inside_step maxmsg n i NoAct q p new one = sym (kept_all (of_place (λ (m : Send). m.place) i q.contents))

-- what the law says of one place
inside_more : (c : Config) (h : History) (o i : ℕ) → of_place (λ (m : Send). m.place) i (contents c h o) ≡ unended (λ e before. stays (maxmsg c before o) i (act c o e before) (queue c before o)) (λ m e before. takes m (act c o e before) (queue c before o)) h → (e : Event) (r : Option Rule) → of_place (λ (m : Send). m.place) i (contents c (record { event = e; rule = r } ∷ h) o) ≡ unended (λ e before. stays (maxmsg c before o) i (act c o e before) (queue c before o)) (λ m e before. takes m (act c o e before) (queue c before o)) (record { event = e; rule = r } ∷ h)
unfolding queue
inside_more c h o i known e (Some rule) = known
inside_more c h o i known e None = inside_step (maxmsg c h o) (length h) i (act c o e h) (queue c h o) (act_place c o e h) (sent_later c h o (length h) (omega arith)) (sent_once c h o) ∙ ap (λ x. option_or (stays (maxmsg c h o) i (act c o e h) (queue c h o)) (unless (λ m. takes m (act c o e h) (queue c h o)) x)) known

pub inside_by_place : EachInsideByPlace
unfolding queue
inside_by_place c [] o i = refl
inside_by_place c (r ∷ h) o i = inside_more c h o i (inside_by_place c h o i) r.event r.rule
