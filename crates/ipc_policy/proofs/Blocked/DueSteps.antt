-- How a list of the timed calls that are parked is kept, event by event: what one event ends goes, and what parks comes
-- at the end.
use Rattle.std.proofs.Common.{◌≡◌, ℕ, ◌+◌, ◌<◌, ◌≤◌, Bool, true, false, not, eqb, List, [], ◌∷◌, ◌++◌, length, ◌&&◌, cond, Option, Some, None, refl, sym, ap, subst, inl, inr, ◌⊎◌, ◌∙◌, arith}
use Rattle.std.specs.Prelude.{find, filter}
use Rattle.std.specs.Option.{option_map, option_or}
use Rattle.std.proofs.lemmas.Bool.{eqb-true, eqb-false, eq-eqb, ne_eqb}
use Rattle.ipc_terms.specs.Timed.{deadline}
use Rattle.ipc_terms.specs.Lists.{Each}
use Rattle.ipc_terms.specs.declared.record.Event.{Event}
use Rattle.ipc_policy.specs.declared.config.Config.{Config}
use Rattle.ipc_policy.specs.Decides.History.{History, after_accepted, is_some_and}
use Rattle.ipc_policy.specs.Decides.Timed.{deadline_at}
use Rattle.ipc_policy.specs.Decides.Queues.{Send, Waiter}
use Rattle.ipc_policy.specs.Decides.Bodies.{queue, semaphore, senders, receivers, waiters}
use Rattle.ipc_policy.specs.Decides.Parking.{ParkedKind, Sending, Receiving, Waiting, Parked, parked}
use Rattle.ipc_policy.specs.Follows.Laws.{place_listed}
use Rattle.ipc_policy.specs.Follows.Readings.{Rising}
use Rattle.ipc_policy.specs.Decides.Verdict.{Legal}
use Rattle.ipc_policy.proofs.Histories.Refused.{none_yet}
use Rattle.ipc_policy.proofs.Lists.PlaceLists.{rising_le, rising_higher, rising_append, rising_filter}
use Rattle.ipc_policy.proofs.Blocked.ParkedPlaces.{parked_by_place}
use Rattle.ipc_policy.proofs.Blocked.CallsListed.{calls_listed}
use Rattle.ipc_policy.specs.Follows.CallLists.{In, IsTimedCall, HasCall, IsCallList, IsTimedList, dropped, joined}
use Rattle.ipc_policy.proofs.Blocked.DueLists.{in_each, found_in}

-- what stands in lists
each_from : {A : Type 0} (P : A → Type 0) (xs : List A) → ((x : A) → In x xs → P x) → Each P xs
each_from P [] all = tt
each_from P (x ∷ xs) all = (all x (inl refl), each_from P xs (λ y is. all y (inr is)))

in_filter : {A : Type 0} (keep : A → Bool) (y : A) (xs : List A) → In y (filter keep xs) → In y xs × (keep y ≡ true)
in_filter keep y [] is = absurd is
in_filter {A = A} keep y (x ∷ xs) is = at (keep x) refl is (in_filter keep y xs) where
  at : (b : Bool) → keep x ≡ b → In y (cond b (x ∷ filter keep xs) (filter keep xs)) → (In y (filter keep xs) → In y xs × (keep y ≡ true)) → ((x ≡ y) ⊎ In y xs) × (keep y ≡ true)
  at true q (inl same) rest = (inl same, ap keep (sym same) ∙ q)
  at true q (inr there) rest = let found = rest there in (inr found.0, found.1)
  at false q there rest = let found = rest there in (inr found.0, found.1)

filter_in : {A : Type 0} (keep : A → Bool) (y : A) (xs : List A) → In y xs → keep y ≡ true → In y (filter keep xs)
filter_in keep y [] is kept = absurd is
filter_in {A = A} keep y (x ∷ xs) is kept = at (keep x) refl is (filter_in keep y xs) where
  at : (b : Bool) → keep x ≡ b → (x ≡ y) ⊎ In y xs → (In y xs → keep y ≡ true → In y (filter keep xs)) → In y (cond b (x ∷ filter keep xs) (filter keep xs))
  at true q (inl same) rest = inl same
  at true q (inr there) rest = inr (rest there kept)
  at false q (inl same) rest = absurd (let wrong : true ≡ false = sym kept ∙ ap keep (sym same) ∙ q in cc)
  at false q (inr there) rest = rest there kept

in_joined : {A : Type 0} (y z : A) (xs : List A) → In y (xs ++ z ∷ []) → In y xs ⊎ (z ≡ y)
in_joined y z [] (inl same) = inr same
in_joined y z [] (inr is) = absurd is
in_joined y z (x ∷ xs) (inl same) = inl (inl same)
in_joined y z (x ∷ xs) (inr there) = at (in_joined y z xs there) where
  at : In y xs ⊎ (z ≡ y) → ((x ≡ y) ⊎ In y xs) ⊎ (z ≡ y)
  at (inl is) = inl (inr is)
  at (inr same) = inr same

joined_in : {A : Type 0} (y z : A) (xs : List A) → In y xs → In y (xs ++ z ∷ [])
joined_in y z [] is = absurd is
joined_in y z (x ∷ xs) (inl same) = inl same
joined_in y z (x ∷ xs) (inr there) = inr (joined_in y z xs there)

joined_last : {A : Type 0} (z : A) (xs : List A) → In z (xs ++ z ∷ [])
joined_last z [] = inl refl
joined_last z (x ∷ xs) = inr (joined_last z xs)

below_end : {A : Type 0} (place : A → ℕ) (lo : ℕ) (y : A) (xs : List A) (hi : ℕ) → Rising place lo xs hi → In y xs → place y < hi
below_end place lo y [] hi r is = absurd is
below_end place lo y (x ∷ xs) hi r (inl same) = let le = rising_le place (place x + 1) xs hi r.1 in subst (λ z. place z < hi) same (omega arith)
below_end place lo y (x ∷ xs) hi r (inr there) = below_end place (place x + 1) y xs hi r.1 there

-- a parked call was made before now
listed_below : {A : Type 0} (place session : A → ℕ) (s i : ℕ) (xs : List A) (hi : ℕ) → Rising place 0 xs hi → option_map place (find (λ y. eqb (session y) s) xs) ≡ Some i → i < hi
listed_below {A = A} place session s i xs hi r e = at (find (λ y. eqb (session y) s) xs) refl e where
  at : (w : Option A) → find (λ y. eqb (session y) s) xs ≡ w → option_map place w ≡ Some i → i < hi
  at None q k = absurd cc
  at (Some x) q k =
      let there = found_in (λ y. eqb (session y) s) x xs q in
      let same : place x ≡ i = cc in
      subst (λ (n : ℕ). n < hi) same (below_end place 0 x xs hi r there.0)

pub parked_before : (c : Config) (h : History) → Legal c h → (s : ℕ) (p : Parked) → parked c h s ≡ Some p → p.place < length h
parked_before c h legal s p k = at p.kind ((calls_listed c h legal).each_parked s p k) where
  at : (kind : ParkedKind) → place_listed kind s (queue c h p.object) (semaphore c h p.object) ≡ Some p.place → p.place < length h
  at Sending e = listed_below (λ (m : Send). m.place) (λ m. m.session) s p.place (senders c h p.object) (length h) (parked_by_place c h p.object).sends_rise e
  at Receiving e = listed_below (λ (w : Waiter). w.place) (λ w. w.session) s p.place (receivers c h p.object) (length h) (parked_by_place c h p.object).receives_rise e
  at Waiting e = listed_below (λ (w : Waiter). w.place) (λ w. w.session) s p.place (waiters c h p.object) (length h) (parked_by_place c h p.object).waits_rise e

-- an event says nothing of the deadlines before it
pub deadline_stays : (h : History) (e : Event) (i : ℕ) → i < length h → deadline_at (after_accepted h e) i ≡ deadline_at h i
deadline_stays h e i lt = ap (λ b. option_or (cond b (deadline e) None) (deadline_at h i)) (ne_eqb (length h) i (λ (q : length h ≡ i). absurd (omega arith)))

pub deadline_here : (h : History) (e : Event) → deadline_at (after_accepted h e) (length h) ≡ deadline e
deadline_here h e = ap (λ b. option_or (cond b (deadline e) None) (deadline_at h (length h))) (eq-eqb (length h) (length h) refl) ∙ ap (option_or (deadline e)) (none_yet h (length h) (omega arith)) ∙ last (deadline e) where
  last : (w : Option ℕ) → option_or w None ≡ w
  last None = refl
  last (Some t) = refl

not_true : (b : Bool) → not b ≡ true → b ≡ false
not_true true k = absurd cc
not_true false k = refl

-- an event ends the call of a session
pub list_left : {A : Type 0} (place session deadline' : A → ℕ) (parked' : ℕ → Option Parked) (until' : ℕ → Option ℕ) (n : ℕ) (xs : List A) (gone : Option ℕ) → IsCallList place session deadline' parked' until' n xs → IsCallList place session deadline' (λ i. cond (is_some_and (λ j. eqb j i) gone) None (parked' i)) until' n (dropped session gone xs)
list_left place session deadline' parked' until' n xs None listed = listed
list_left {A = A} place session deadline' parked' until' n xs (Some s) listed = record {
  rising = rising_filter place keep 0 xs n listed.rising;
  each = each_from (λ x. IsTimedCall left until' (session x) (place x) (deadline' x)) (filter keep xs) (λ x is. stays x (in_filter keep x xs is));
  all = λ i q t is until. at i q t is until (eqb s i) refl;
} where
  keep : A → Bool
  keep x = not (eqb (session x) s)

  left : ℕ → Option Parked
  left i = cond (eqb s i) None (parked' i)

  stays : (x : A) → In x xs × (keep x ≡ true) → IsTimedCall left until' (session x) (place x) (deadline' x)
  stays x found =
      let was = in_each (λ x. IsTimedCall parked' until' (session x) (place x) (deadline' x)) x xs listed.each found.0 in
      let ne : eqb s (session x) ≡ false = ne_eqb s (session x) (λ (q : s ≡ session x). eqb-false _ _ (not_true _ found.1) (sym q)) in
      record { call = was.call; here = ap (λ b. cond b None (parked' (session x))) ne ∙ was.here; place = was.place; until = was.until }

  at : (i : ℕ) (q : Parked) (t : ℕ) → left i ≡ Some q → until' q.place ≡ Some t → (b : Bool) → eqb s i ≡ b → HasCall place session i q.place (filter keep xs)
  at i q t is until true k = absurd (let gone : None ≡ Some q = sym (ap (λ b. cond b None (parked' i)) k) ∙ is in cc)
  at i q t is until false k =
      let has = listed.all i q t (sym (ap (λ b. cond b None (parked' i)) k) ∙ is) until in
      let ne : eqb (session has.item) s ≡ false = ne_eqb _ _ (λ (e : session has.item ≡ s). eqb-false _ _ k (sym e ∙ has.of_session)) in
      record { item = has.item; stands = filter_in keep has.item xs has.stands (ap not ne); of_session = has.of_session; at_place = has.at_place }

-- which call parks, if one does
abbrev pub starting : Bool → ℕ → Parked → ℕ → Option Parked
starting b s p i = cond (eqb s i && b) (Some p) None

-- a call parks at the next place, or none does; and what was parked is of places before it
pub record Comes (parked' : ℕ → Option Parked) (until' until'' : ℕ → Option ℕ) (n s : ℕ) (p : Parked) (b : Bool) : Type 0 where
  pub before : (i : ℕ) (q : Parked) → parked' i ≡ Some q → q.place < n
  pub same : (i : ℕ) → i < n → until'' i ≡ until' i
  pub at_end : p.place ≡ n
  pub free : b ≡ true → parked' s ≡ None

started : (b d : Bool) (p q : Parked) (w : Option Parked) → option_or (cond (d && b) (Some p) None) w ≡ Some q → ((d ≡ true) × (b ≡ true) × (p ≡ q)) ⊎ (w ≡ Some q)
started true true p q w e = inl (refl, refl, cc)
started false true p q w e = inr e
started b false p q w e = inr e

stands_so : (b d : Bool) (p q : Parked) (w : Option Parked) → (d ≡ true → b ≡ true → w ≡ None) → w ≡ Some q → option_or (cond (d && b) (Some p) None) w ≡ Some q
stands_so true true p q w free e = absurd (let wrong : None ≡ Some q = sym (free refl refl) ∙ e in cc)
stands_so false true p q w free e = e
stands_so b false p q w free e = e

-- what was parked stays so
still : (parked' : ℕ → Option Parked) (until' until'' : ℕ → Option ℕ) (n s : ℕ) (p : Parked) (b : Bool) → Comes parked' until' until'' n s p b → (i k t : ℕ) → IsTimedCall parked' until' i k t → IsTimedCall (λ i. option_or (starting b s p i) (parked' i)) until'' i k t
still parked' until' until'' n s p b comes i k t was = record {
  call = was.call;
  here = stands_so b (eqb s i) p was.call (parked' i) (λ d e. ap parked' (sym (eqb-true _ _ d)) ∙ comes.free e) was.here;
  place = was.place;
  until = comes.same k (subst (λ (m : ℕ). m < n) was.place (comes.before i was.call was.here)) ∙ was.until;
}

-- where no timed call parks, the list stays
pub list_stays : {A : Type 0} (place session deadline' : A → ℕ) (parked' : ℕ → Option Parked) (until' until'' : ℕ → Option ℕ) (n s : ℕ) (p : Parked) (b : Bool) (xs : List A) → Comes parked' until' until'' n s p b → (b ≡ true → until'' n ≡ None) → IsCallList place session deadline' parked' until' n xs → IsCallList place session deadline' (λ i. option_or (starting b s p i) (parked' i)) until'' (n + 1) xs
list_stays {A = A} place session deadline' parked' until' until'' n s p b xs comes untimed listed = record {
  rising = rising_higher place 0 xs n (n + 1) (omega arith) listed.rising;
  each = each_from (λ x. IsTimedCall (λ i. option_or (starting b s p i) (parked' i)) until'' (session x) (place x) (deadline' x)) xs (λ x is. still parked' until' until'' n s p b comes (session x) (place x) (deadline' x) (in_each (λ x. IsTimedCall parked' until' (session x) (place x) (deadline' x)) x xs listed.each is));
  all = λ i q t is until. at i q t until (started b (eqb s i) p q (parked' i) is);
} where
  at : (i : ℕ) (q : Parked) (t : ℕ) → until'' q.place ≡ Some t → ((eqb s i ≡ true) × (b ≡ true) × (p ≡ q)) ⊎ (parked' i ≡ Some q) → HasCall place session i q.place xs
  at i q t until (inl new) = absurd (let wrong : None ≡ Some t = sym (untimed new.1) ∙ ap until'' (sym comes.at_end ∙ ap (λ (y : Parked). y.place) new.2) ∙ until in cc)
  at i q t until (inr was) = listed.all i q t was (sym (comes.same q.place (comes.before i q was)) ∙ until)

-- where a timed call parks, it comes at the end
pub list_joined : {A : Type 0} (place session deadline' : A → ℕ) (parked' : ℕ → Option Parked) (until' until'' : ℕ → Option ℕ) (n : ℕ) (p : Parked) (xs : List A) (x : A) → Comes parked' until' until'' n (session x) p true → place x ≡ n → until'' n ≡ Some (deadline' x) → IsCallList place session deadline' parked' until' n xs → IsCallList place session deadline' (λ i. option_or (starting true (session x) p i) (parked' i)) until'' (n + 1) (xs ++ x ∷ [])
list_joined {A = A} place session deadline' parked' until' until'' n p xs x comes at_end until listed = record {
  rising = rising_append place 0 xs n x at_end listed.rising;
  each = each_from (λ y. IsTimedCall after until'' (session y) (place y) (deadline' y)) (xs ++ x ∷ []) (λ y is. is_timed y (in_joined y x xs is));
  all = λ i q t is over. at i q t over (started true (eqb (session x) i) p q (parked' i) is);
} where
  after : ℕ → Option Parked
  after i = option_or (starting true (session x) p i) (parked' i)

  new : IsTimedCall after until'' (session x) (place x) (deadline' x)
  new = record {
    call = p;
    here = ap (λ b. option_or (cond (b && true) (Some p) None) (parked' (session x))) (eq-eqb (session x) (session x) refl);
    place = comes.at_end ∙ sym at_end;
    until = ap until'' at_end ∙ until;
  }

  is_timed : (y : A) → In y xs ⊎ (x ≡ y) → IsTimedCall after until'' (session y) (place y) (deadline' y)
  is_timed y (inr same) = subst (λ z. IsTimedCall after until'' (session z) (place z) (deadline' z)) same new
  is_timed y (inl is) = still parked' until' until'' n (session x) p true comes (session y) (place y) (deadline' y) (in_each (λ z. IsTimedCall parked' until' (session z) (place z) (deadline' z)) y xs listed.each is)

  at : (i : ℕ) (q : Parked) (t : ℕ) → until'' q.place ≡ Some t → ((eqb (session x) i ≡ true) × (true ≡ true) × (p ≡ q)) ⊎ (parked' i ≡ Some q) → HasCall place session i q.place (xs ++ x ∷ [])
  at i q t over (inl new) = record { item = x; stands = joined_last x xs; of_session = eqb-true _ _ new.0; at_place = at_end ∙ sym comes.at_end ∙ ap (λ (y : Parked). y.place) new.2 }
  at i q t over (inr was) =
      let has = listed.all i q t was (sym (comes.same q.place (comes.before i q was)) ∙ over) in
      record { item = has.item; stands = joined_in has.item x xs has.stands; of_session = has.of_session; at_place = has.at_place }

-- before anything happened no call is parked
pub list_new : {A : Type 0} (place session deadline' : A → ℕ) (c : Config) → IsTimedList place session deadline' c [] []
unfolding parked
list_new place session deadline' c = record { rising = omega arith; each = tt; all = λ s p t here until. absurd cc }

-- the same calls and deadlines give the same list
pub list_same : {A : Type 0} (place session deadline' : A → ℕ) (parked' parked'' : ℕ → Option Parked) (until' until'' : ℕ → Option ℕ) (n m : ℕ) (xs : List A) → ((i : ℕ) → parked'' i ≡ parked' i) → ((i : ℕ) → until'' i ≡ until' i) → n ≤ m → IsCallList place session deadline' parked' until' n xs → IsCallList place session deadline' parked'' until'' m xs
list_same {A = A} place session deadline' parked' parked'' until' until'' n m xs calls deadlines le listed = record {
  rising = rising_higher place 0 xs n m le listed.rising;
  each = each_from (λ x. IsTimedCall parked'' until'' (session x) (place x) (deadline' x)) xs (λ x is.
      let was = in_each (λ x. IsTimedCall parked' until' (session x) (place x) (deadline' x)) x xs listed.each is in
      record { call = was.call; here = calls (session x) ∙ was.here; place = was.place; until = deadlines (place x) ∙ was.until });
  all = λ i q t is until. listed.all i q t (sym (calls i) ∙ is) (sym (deadlines q.place) ∙ until);
}

-- a listed call is of a session that is parked
pub listed_parked : {A : Type 0} (place session deadline' : A → ℕ) (parked' : ℕ → Option Parked) (until' : ℕ → Option ℕ) (n : ℕ) (xs : List A) → IsCallList place session deadline' parked' until' n xs → (s : ℕ) → parked' s ≡ None → Each (λ x. session x ≡ s → ⊥) xs
listed_parked {A = A} place session deadline' parked' until' n xs listed s none = each_from (λ x. session x ≡ s → ⊥) xs (λ x is e.
    let was = in_each (λ x. IsTimedCall parked' until' (session x) (place x) (deadline' x)) x xs listed.each is in
    let wrong : None ≡ Some was.call = sym none ∙ ap parked' (sym e) ∙ was.here in
    cc)

-- and was made before
pub listed_before : {A : Type 0} (place session deadline' : A → ℕ) (parked' : ℕ → Option Parked) (until' : ℕ → Option ℕ) (n : ℕ) (xs : List A) → IsCallList place session deadline' parked' until' n xs → Each (λ x. place x < n) xs
listed_before {A = A} place session deadline' parked' until' n xs listed = each_from (λ x. place x < n) xs (λ x is. below_end place 0 x xs n listed.rising is)
