-- The contents stand in the order of entry; what is next is the earliest of the greatest priority.
use Rattle.std.proofs.Common.{◌≡◌, ℕ, ◌+◌, ◌<◌, ◌≤◌, Bool, true, false, not, ◌&&◌, ◌||◌, eqb, ltb, List, [], ◌∷◌, ◌++◌, length, cond, Option, Some, None, refl, sym, ap, subst, ◌∙◌, arith, add-one}
use Rattle.std.specs.Prelude.{is_some, unwrap_or, MatchOption}
use Rattle.std.specs.Option.{option_or, option_to_list}
use Rattle.std.proofs.lemmas.Bool.{eq-eqb, ne_eqb, ltb-true, ltb-false}
use Rattle.ipc_terms.specs.Lists.{first, Each}
use Rattle.ipc_terms.specs.declared.rule.Rule.{Rule}
use Rattle.ipc_terms.specs.declared.record.Event.{Event}
use Rattle.ipc_policy.specs.declared.config.Config.{Config}
use Rattle.ipc_policy.specs.Decides.History.{History, newest}
use Rattle.ipc_policy.specs.Decides.Queues.{Send, Act, Sends, Receives, Withdraws, NoAct, Queue, is_filled, has_none, next, others, contents_after, maxmsg}
use Rattle.ipc_policy.specs.Decides.Bodies.{act, queue, contents}
use Rattle.ipc_policy.specs.Follows.Readings.{Rising, enters, entering, entered, EachInsideInOrder, IsNext, EachNextIsGreatest}
use Rattle.ipc_policy.proofs.Lists.PlaceLists.{rising_higher, rising_append, rising_filter}
use Rattle.ipc_policy.proofs.Lists.EachItem.{each_map, each_append, each_filter}
use Rattle.ipc_policy.proofs.Lists.Counting.{count_at}
use Rattle.ipc_policy.proofs.Queues.InsidePlaces.{first_in}
use Rattle.ipc_policy.proofs.Queues.Keeping.{sent_once, sent_later}
use Rattle.ipc_policy.proofs.Blocked.ParkedPlaces.{HasPlace, act_place}

-- what holds of each send that the list counts
each_counted : (P : Send → Type 0) (xs : List Send) → ((m : Send) → 1 ≤ count_at m.place xs → P m) → Each P xs
each_counted P [] f = tt
each_counted P (x ∷ xs) f = (f x (let here : eqb x.place x.place ≡ true = eq-eqb _ _ refl in rw here (omega arith)), each_counted P xs (λ m le. f m (more (eqb x.place m.place) (count_at m.place xs) le))) where
  more : (b : Bool) (n : ℕ) → 1 ≤ n → 1 ≤ cond b (n + 1) n
  more true n le = omega arith
  more false n le = le

rising_same : (f g : Send → ℕ) (lo : ℕ) (xs : List Send) (hi : ℕ) → Each (λ m. g m ≡ f m) xs → Rising f lo xs hi → Rising g lo xs hi
rising_same f g lo [] hi same r = r
rising_same f g lo (x ∷ xs) hi same r = (omega (arith, same.0, r.0), rising_same f g (g x + 1) xs hi same.1 (subst (λ (n : ℕ). Rising f (n + 1) xs hi) (sym same.0) r.1))

unchanged : (n : ℕ) (q : Queue) (f g : ℕ → ℕ) → ((i : ℕ) → g i ≡ f i) → Rising (λ (m : Send). f m.place) 0 q.contents n → Rising (λ (m : Send). g m.place) 0 q.contents (n + 1)
unchanged n q f g same r = rising_higher (λ (m : Send). g m.place) 0 q.contents n (n + 1) (omega arith) (rising_same (λ (m : Send). f m.place) (λ (m : Send). g m.place) 0 q.contents n (each_counted (λ m. g m.place ≡ f m.place) q.contents (λ m le. same m.place)) r)

rising_end : (f : Send → ℕ) (lo : ℕ) (xs : List Send) (hi : ℕ) → Rising f lo xs hi → Rising f lo (xs ++ []) hi
rising_end f lo [] hi r = r
rising_end f lo (x ∷ xs) hi r = (r.0, rising_end f (f x + 1) xs hi r.1)

order_step : (maxmsg n : ℕ) (a : Act) (q : Queue) (f g : ℕ → ℕ) → HasPlace n a → count_at n q.contents ≡ 0 → ((j : ℕ) → count_at j q.senders + count_at j q.contents ≤ 1) → ((i : ℕ) → g i ≡ cond (is_some (enters maxmsg i a q)) n (f i)) → Rising (λ (m : Send). f m.place) 0 q.contents n → Rising (λ (m : Send). g m.place) 0 (contents_after maxmsg a q) (n + 1)
order_step maxmsg n (Sends m) q f g p new one step r = at (is_filled maxmsg q.contents) (has_none q.receivers) refl where
  old : Rising (λ (x : Send). g x.place) 0 q.contents n
  old = rising_same (λ (x : Send). f x.place) (λ (x : Send). g x.place) 0 q.contents n (each_counted (λ x. g x.place ≡ f x.place) q.contents (λ x le. step x.place ∙ other x le (is_filled maxmsg q.contents))) r where
    other : (x : Send) → 1 ≤ count_at x.place q.contents → (b : Bool) → cond (is_some {T = Send} (cond (not b && eqb m.place x.place) (Some m) None)) n (f x.place) ≡ f x.place
    other x le b =
        let no' : eqb m.place x.place ≡ false = ne_eqb _ _ (λ (e : m.place ≡ x.place). let same : x.place ≡ n = sym e ∙ p in let none : count_at x.place q.contents ≡ 0 = rw same new in absurd (omega arith)) in
        rw no' (fails b) where
          fails : (b : Bool) → cond (is_some {T = Send} (cond (not b && false) (Some m) None)) n (f x.place) ≡ f x.place
          fails true = refl
          fails false = refl

  at : (b d : Bool) → is_filled maxmsg q.contents ≡ b → Rising (λ (x : Send). g x.place) 0 (cond (b || not d) q.contents (q.contents ++ m ∷ [])) (n + 1)
  at true d e = rising_higher (λ (x : Send). g x.place) 0 q.contents n (n + 1) (omega arith) old
  at false false e = rising_higher (λ (x : Send). g x.place) 0 q.contents n (n + 1) (omega arith) old
  at false true e = rising_append (λ (x : Send). g x.place) 0 q.contents n m (step m.place ∙ (let self : eqb m.place m.place ≡ true = eq-eqb _ _ refl in rw (e, self) refl)) old
order_step maxmsg n (Receives w) q f g p new one step r = at (first q.senders) refl where
  left : Rising (λ (x : Send). f x.place) 0 (others (next q.contents) q.contents) n
  left = at_next (next q.contents) where
    at_next : (o : Option Send) → Rising (λ (x : Send). f x.place) 0 (others o q.contents) n
    at_next None = r
    at_next (Some y) = rising_filter (λ (x : Send). f x.place) (λ x. not (eqb x.place y.place)) 0 q.contents n r

  same_on : (o : Option Send) → first q.senders ≡ o → Each (λ x. g x.place ≡ f x.place) q.contents
  same_on o e = each_counted (λ x. g x.place ≡ f x.place) q.contents (λ x le. step x.place ∙ other x le) where
    other : (x : Send) → 1 ≤ count_at x.place q.contents → cond (is_some (entering x.place (first q.senders))) n (f x.place) ≡ f x.place
    other x le = not_first (first q.senders) refl where
      not_first : (y : Option Send) → first q.senders ≡ y → cond (is_some (entering x.place y)) n (f x.place) ≡ f x.place
      not_first None k = refl
      not_first (Some y) k = let apart : eqb y.place x.place ≡ false = ne_eqb _ _ (λ (j : y.place ≡ x.place). let there : 1 ≤ count_at x.place q.senders = rw j at (first_in q.senders y k) in let most = one x.place in absurd (omega arith)) in rw apart refl

  kept_in : Each (λ x. g x.place ≡ f x.place) (others (next q.contents) q.contents)
  kept_in = at_next (next q.contents) where
    at_next : (o : Option Send) → Each (λ x. g x.place ≡ f x.place) (others o q.contents)
    at_next None = same_on (first q.senders) refl
    at_next (Some y) = each_filter (λ (x : Send). g x.place ≡ f x.place) (λ x. g x.place ≡ f x.place) (λ x. not (eqb x.place y.place)) q.contents (λ x k h. h) (same_on (first q.senders) refl)

  stays : Rising (λ (x : Send). g x.place) 0 (others (next q.contents) q.contents) n
  stays = rising_same (λ (x : Send). f x.place) (λ (x : Send). g x.place) 0 (others (next q.contents) q.contents) n kept_in left

  at : (o : Option Send) → first q.senders ≡ o → Rising (λ (x : Send). g x.place) 0 (others (next q.contents) q.contents ++ option_to_list o) (n + 1)
  at None e = rising_end (λ (x : Send). g x.place) 0 (others (next q.contents) q.contents) (n + 1) (rising_higher (λ (x : Send). g x.place) 0 (others (next q.contents) q.contents) n (n + 1) (omega arith) stays)
  at (Some y) e = rising_append (λ (x : Send). g x.place) 0 (others (next q.contents) q.contents) n y (step y.place ∙ (let self : eqb y.place y.place ≡ true = eq-eqb _ _ refl in rw (e, self) refl)) stays
order_step maxmsg n (Withdraws s) q f g p new one step r = unchanged n q f g step r
order_step maxmsg n NoAct q f g p new one step r = unchanged n q f g step r

last_or : (b : Bool) (n d : ℕ) (w : Option ℕ) → unwrap_or (option_or (cond b (Some n) None) w) d ≡ cond b n (unwrap_or w d)
last_or true n d w = refl
last_or false n d w = refl

order_more : (c : Config) (h : History) (o : ℕ) → Rising (λ (m : Send). entered c h o m.place) 0 (contents c h o) (length h) → (e : Event) (r : Option Rule) → Rising (λ (m : Send). entered c (record { event = e; rule = r } ∷ h) o m.place) 0 (contents c (record { event = e; rule = r } ∷ h) o) (length h + 1)
unfolding queue
order_more c h o known e (Some rule) = rising_higher (λ (m : Send). entered c h o m.place) 0 (contents c h o) (length h) (length h + 1) (omega arith) known
order_more c h o known e None = order_step (maxmsg c h o) (length h) (act c o e h) (queue c h o) (entered c h o) (entered c (record { event = e; rule = None } ∷ h) o) (act_place c o e h) (sent_later c h o (length h) (omega arith)) (sent_once c h o) (λ i. last_or (is_some (enters (maxmsg c h o) i (act c o e h) (queue c h o))) (length h) 0 (newest (λ e before. cond (is_some (enters (maxmsg c before o) i (act c o e before) (queue c before o))) (Some (length before)) None) h)) known

pub inside_in_order : EachInsideInOrder
unfolding queue
inside_in_order c [] o = omega arith
inside_in_order c (r ∷ h) o = rw (← add-one) (order_more c h o (inside_in_order c h o) r.event r.rule)

-- nothing is next where there is nothing
pub next_some : (xs : List Send) → next xs ≡ None → xs ≡ []
next_some [] e = refl
next_some (x ∷ xs) e = at (next xs) refl e where
  at : (o : Option Send) → next xs ≡ o → next (x ∷ xs) ≡ None → x ∷ xs ≡ []
  at None q k = absurd (let k' = rw q at k in cc)
  at (Some y) q k = chosen (ltb x.priority y.priority) (rw q at k) where
    chosen : (b : Bool) → cond b (Some y) (Some x) ≡ None → x ∷ xs ≡ []
    chosen true j = absurd cc
    chosen false j = absurd cc

next_here : (x : Send) (xs : List Send) → Each (λ m. m.priority ≤ x.priority) xs → IsNext (x ∷ xs) x
next_here x xs h = record { front = []; rest = xs; whole = refl; earlier = tt; later = h }

none_above : (xs : List Send) (n : Send) (top : ℕ) → n.priority ≤ top → IsNext xs n → Each (λ m. m.priority ≤ top) xs
none_above xs n top le h = subst (Each (λ (m : Send). m.priority ≤ top)) (sym h.whole) (each_append (λ (m : Send). m.priority ≤ top) h.front (n ∷ h.rest) (each_map (λ (m : Send). m.priority < n.priority) (λ m. m.priority ≤ top) h.front (λ m lt. omega arith) h.earlier) (le, each_map (λ (m : Send). m.priority ≤ n.priority) (λ m. m.priority ≤ top) h.rest (λ m k. omega arith) h.later))

next_found : (xs : List Send) (n : Send) → next xs ≡ Some n → IsNext xs n
next_found [] n e = absurd cc
next_found (x ∷ xs) n e = at (next xs) refl e (next_found xs) where
  at : (o : Option Send) → next xs ≡ o → next (x ∷ xs) ≡ Some n → ((m : Send) → next xs ≡ Some m → IsNext xs m) → IsNext (x ∷ xs) n
  at None q k rest =
      let k' = rw q at k in
      let same : x ≡ n = cc in
      let empty : xs ≡ [] = next_some xs q in
      subst (λ (m : Send). IsNext (x ∷ xs) m) same (next_here x xs (subst (Each (λ (m : Send). m.priority ≤ x.priority)) (sym empty) tt))
  at (Some y) q k rest = chosen (ltb x.priority y.priority) refl (rw q at k) where
    chosen : (b : Bool) → ltb x.priority y.priority ≡ b → cond b (Some y) (Some x) ≡ Some n → IsNext (x ∷ xs) n
    chosen true lt j =
        let same : y ≡ n = cc in
        let h = rest y q in
        subst (λ (m : Send). IsNext (x ∷ xs) m) same (record { front = x ∷ h.front; rest = h.rest; whole = ap (λ l. x ∷ l) h.whole; earlier = (ltb-true _ _ lt, h.earlier); later = h.later })
    chosen false ge j =
        let same : x ≡ n = cc in
        subst (λ (m : Send). IsNext (x ∷ xs) m) same (next_here x xs (none_above xs y x.priority (ltb-false _ _ ge) (rest y q)))

pub next_is_greatest : EachNextIsGreatest
next_is_greatest xs = at (next xs) refl where
  at : (o : Option Send) → next xs ≡ o → MatchOption o (xs ≡ []) (λ n. IsNext xs n)
  at None e = next_some xs e
  at (Some n) e = next_found xs n e
