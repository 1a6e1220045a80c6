-- In a legal history a tick ends the earliest parked call whose deadline is past.
use Rattle.std.proofs.Common.{◌≡◌, ℕ, zero, suc, ◌<◌, ◌≤◌, Bool, true, false, eqb, List, [], ◌∷◌, length, cond, Option, Some, None, is_some, refl, sym, ap, subst, inl, inr, ◌⊎◌, ◌∙◌, arith}
use Rattle.std.specs.Prelude.{find, max, nat_le, nat_lt, MatchOption}
use Rattle.std.specs.Option.{option_or, option_map}
use Rattle.std.proofs.lemmas.Bool.{eqb-true, eqb-false, eq-eqb, ltb-true, ltb-false, leb-true, leb-false}
use Rattle.ipc_terms.specs.Lists.{Each}
use Rattle.ipc_policy.specs.declared.config.Config.{Config}
use Rattle.ipc_policy.specs.Decides.History.{History, first_below}
use Rattle.ipc_policy.specs.Decides.Timed.{now, deadline_at, is_past}
use Rattle.ipc_policy.specs.Decides.Names.{creations}
use Rattle.ipc_policy.specs.Decides.Queues.{Send, Waiter, Queue}
use Rattle.ipc_policy.specs.Decides.Semaphores.{Semaphore}
use Rattle.ipc_policy.specs.Decides.Bodies.{parked_there, parked_anywhere, due, queue, semaphore, senders, receivers, waiters}
use Rattle.ipc_policy.specs.Decides.Parking.{ParkedKind, Sending, Receiving, Waiting, Parked, parked}
use Rattle.ipc_policy.specs.Decides.Verdict.{Legal}
use Rattle.ipc_policy.specs.Follows.Laws.{IsListed, place_listed}
use Rattle.ipc_policy.specs.Decides.Sessions.{live}
use Rattle.ipc_policy.specs.Follows.Ticks.{IsDue, IsEarliestDue, EarliestIsDue, DueIsLive}
use Rattle.ipc_policy.proofs.Directories.Creating.{held_created, holds_is_held}
use Rattle.ipc_policy.proofs.Histories.Refused.{none_yet}
use Rattle.ipc_policy.proofs.Blocked.CallsListed.{calls_listed}
use Rattle.ipc_policy.proofs.Blocked.ParkedSessions.{is_parked}

-- no number below a limit gives anything
abbrev NoneBelow : {A : Type 0} → (ℕ → Option A) → ℕ → Type 0
NoneBelow give n = (i : ℕ) → i < n → give i ≡ None

-- this is what the least number below a limit that gives something gives
record FirstOf {A : Type 0} (give : ℕ → Option A) (n : ℕ) (x : A) : Type 0 where
  number : ℕ
  below : number < n
  gives : give number ≡ Some x
  least : NoneBelow give number

below_or_last : (i n : ℕ) → i < suc n → (i < n) ⊎ (i ≡ n)
below_or_last i n lt = at (eqb i n) refl where
  at : (b : Bool) → eqb i n ≡ b → (i < n) ⊎ (i ≡ n)
  at true e = inr (eqb-true _ _ e)
  at false e = inl (let other = eqb-false _ _ e in omega arith)

found_next : {A : Type 0} (give : ℕ → Option A) (n : ℕ) (w : Option A) → MatchOption w (NoneBelow give n) (FirstOf give n) → (v : Option A) → give n ≡ v → MatchOption (option_or w v) (NoneBelow give (suc n)) (FirstOf give (suc n))
found_next {A = A} give n None known None e = λ i lt. at i (below_or_last i n lt) where
  at : (i : ℕ) → (i < n) ⊎ (i ≡ n) → give i ≡ None
  at i (inl below) = known i below
  at i (inr last) = ap give last ∙ e
found_next give n None known (Some x) e = record { number = n; below = omega arith; gives = e; least = known }
found_next give n (Some x) known v e = record { number = known.number; below = let lt = known.below in omega arith; gives = known.gives; least = known.least }

found_below : {A : Type 0} (give : ℕ → Option A) (n : ℕ) → MatchOption (first_below give n) (NoneBelow give n) (FirstOf give n)
found_below give zero = λ i lt. absurd (omega arith)
found_below give (suc n) = found_next give n (first_below give n) (found_below give n) (give n) refl

-- the call of a place that a list has
record CallAt (f : ℕ → Option Parked) (i s : ℕ) : Type 0 where
  call : Parked
  here : f s ≡ Some call
  place : call.place ≡ i

call_in : {A : Type 0} (place session : A → ℕ) (f : ℕ → Option Parked) (call : A → Parked) → ((y : A) → (call y).place ≡ place y) → (i s : ℕ) (xs : List A) → Each (λ x. f (session x) ≡ Some (call x)) xs → option_map session (find (λ x. eqb (place x) i) xs) ≡ Some s → CallAt f i s
call_in place session f call placed i s [] all e = absurd cc
call_in place session f call placed i s (x ∷ xs) all e = at (eqb (place x) i) refl e (call_in place session f call placed i s xs all.1) where
  at : (b : Bool) → eqb (place x) i ≡ b → option_map session (cond b (Some x) (find (λ y. eqb (place y) i) xs)) ≡ Some s → (option_map session (find (λ y. eqb (place y) i) xs) ≡ Some s → CallAt f i s) → CallAt f i s
  at true q j rest = let same : session x ≡ s = cc in record { call = call x; here = ap f (sym same) ∙ all.0; place = placed x ∙ eqb-true _ _ q }
  at false q j rest = rest j

-- a list that has a call of a session has one of its place
some_at : {A : Type 0} (place session : A → ℕ) (s i : ℕ) (xs : List A) → option_map place (find (λ x. eqb (session x) s) xs) ≡ Some i → is_some (option_map session (find (λ x. eqb (place x) i) xs)) ≡ true
some_at place session s i [] e = absurd cc
some_at {A = A} place session s i (x ∷ xs) e = at (eqb (session x) s) e (some_at place session s i xs) where
  other : (b : Bool) → is_some (option_map session (find (λ y. eqb (place y) i) xs)) ≡ true → is_some (option_map session (cond b (Some x) (find (λ y. eqb (place y) i) xs))) ≡ true
  other true k = refl
  other false k = k

  at : (b : Bool) → option_map place (cond b (Some x) (find (λ y. eqb (session y) s) xs)) ≡ Some i → (option_map place (find (λ y. eqb (session y) s) xs) ≡ Some i → is_some (option_map session (find (λ y. eqb (place y) i) xs)) ≡ true) → is_some (option_map session (cond (eqb (place x) i) (Some x) (find (λ y. eqb (place y) i) xs))) ≡ true
  at true j rest = let same : place x ≡ i = cc in rw (eq-eqb _ _ same) refl
  at false j rest = other (eqb (place x) i) (rest j)

-- whose call of a place is parked on an object is parked there
parked_so : (c : Config) (h : History) → Legal c h → (i s o : ℕ) → parked_there i (queue c h o) (semaphore c h o) ≡ Some s → CallAt (parked c h) i s
parked_so c h legal i s o k = sending (option_map (λ (m : Send). m.session) (find (λ m. eqb m.place i) (senders c h o))) refl k where
  known : IsListed c h
  known = calls_listed c h legal

  waits : Option ℕ
  waits = option_map (λ (w : Waiter). w.session) (find (λ w. eqb w.place i) (waiters c h o))

  waiting : waits ≡ Some s → CallAt (parked c h) i s
  waiting j = call_in (λ (w : Waiter). w.place) (λ w. w.session) (parked c h) (λ w. record { object = o; place = w.place; kind = Waiting }) (λ w. refl) i s (waiters c h o) (known.each_wait o) j

  receiving : (w : Option ℕ) → option_map (λ (v : Waiter). v.session) (find (λ v. eqb v.place i) (receivers c h o)) ≡ w → option_or w waits ≡ Some s → CallAt (parked c h) i s
  receiving None q j = waiting j
  receiving (Some t) q j = call_in (λ (w : Waiter). w.place) (λ w. w.session) (parked c h) (λ w. record { object = o; place = w.place; kind = Receiving }) (λ w. refl) i s (receivers c h o) (known.each_receive o) (q ∙ j)

  sending : (w : Option ℕ) → option_map (λ (m : Send). m.session) (find (λ m. eqb m.place i) (senders c h o)) ≡ w → option_or w (option_or (option_map (λ (v : Waiter). v.session) (find (λ v. eqb v.place i) (receivers c h o))) waits) ≡ Some s → CallAt (parked c h) i s
  sending None q j = receiving (option_map (λ (v : Waiter). v.session) (find (λ v. eqb v.place i) (receivers c h o))) refl j
  sending (Some t) q j = call_in (λ (m : Send). m.place) (λ m. m.session) (parked c h) (λ m. record { object = o; place = m.place; kind = Sending }) (λ m. refl) i s (senders c h o) (known.each_send o) (q ∙ j)

either_some : {A : Type 0} (w v : Option A) → is_some v ≡ true → is_some (option_or w v) ≡ true
either_some None v e = e
either_some (Some x) v e = refl

or_some : {A : Type 0} (w v : Option A) → is_some w ≡ true → is_some (option_or w v) ≡ true
or_some None v e = absurd cc
or_some (Some x) v e = refl

-- and the call in which a session is parked is found by its place
found_there : (kind : ParkedKind) (s i : ℕ) (q : Queue) (u : Semaphore) → place_listed kind s q u ≡ Some i → is_some (parked_there i q u) ≡ true
found_there Sending s i q u k = or_some _ _ (some_at (λ (m : Send). m.place) (λ m. m.session) s i q.senders k)
found_there Receiving s i q u k = either_some (option_map (λ (m : Send). m.session) (find (λ m. eqb m.place i) q.senders)) _ (or_some _ _ (some_at (λ (w : Waiter). w.place) (λ w. w.session) s i q.receivers k))
found_there Waiting s i q u k = either_some (option_map (λ (m : Send). m.session) (find (λ m. eqb m.place i) q.senders)) _ (either_some (option_map (λ (w : Waiter). w.session) (find (λ w. eqb w.place i) q.receivers)) _ (some_at (λ (w : Waiter). w.place) (λ w. w.session) s i u.waiters k))

found_anywhere : (c : Config) (h : History) → Legal c h → (s : ℕ) (p : Parked) → parked c h s ≡ Some p → is_some (parked_anywhere (queue c h) (semaphore c h) (creations h) p.place) ≡ true
found_anywhere c h legal s p k = at (parked_anywhere (queue c h) (semaphore c h) (creations h) p.place) (found_below (λ o. parked_there p.place (queue c h o) (semaphore c h o)) (creations h)) where
  there : is_some (parked_there p.place (queue c h p.object) (semaphore c h p.object)) ≡ true
  there = found_there p.kind s p.place (queue c h p.object) (semaphore c h p.object) ((calls_listed c h legal).each_parked s p k)

  made : p.object < creations h
  made = let hold = (is_parked c h legal s p k).holding in let below = held_created h hold.desc hold.x (holds_is_held h s hold.desc hold.x hold.held) in subst (λ (n : ℕ). n < creations h) hold.object below

  at : (w : Option ℕ) → MatchOption w (NoneBelow (λ o. parked_there p.place (queue c h o) (semaphore c h o)) (creations h)) (FirstOf (λ o. parked_there p.place (queue c h o) (semaphore c h o)) (creations h)) → is_some w ≡ true
  at (Some x) found = refl
  at None none = absurd (let gone = none p.object made in let wrong : true ≡ false = sym there ∙ ap is_some gone in cc)

-- a deadline is that of a call that was made
past_made : (h : History) (moment i : ℕ) → is_past moment (deadline_at h i) ≡ true → i < length h
past_made h moment i k = at (nat_le (length h) i) refl where
  at : (b : Bool) → nat_le (length h) i ≡ b → i < length h
  at true e = absurd (let none = none_yet h i (leb-true _ _ e) in let wrong : false ≡ true = ap (is_past moment) (sym none) ∙ k in cc)
  at false e = let other = leb-false _ _ e in omega arith

-- what a place gives to a tick
abbrev given_to : Config → History → ℕ → ℕ → Option ℕ
given_to c h moment i = cond (is_past (max moment (now h)) (deadline_at h i)) (parked_anywhere (queue c h) (semaphore c h) (creations h) i) None

given_call : (c : Config) (h : History) → Legal c h → (moment i s : ℕ) → given_to c h moment i ≡ Some s → (is_past (max moment (now h)) (deadline_at h i) ≡ true) × CallAt (parked c h) i s
given_call c h legal moment i s k = at (is_past (max moment (now h)) (deadline_at h i)) refl k where
  on : (w : Option ℕ) → MatchOption w (NoneBelow (λ o. parked_there i (queue c h o) (semaphore c h o)) (creations h)) (FirstOf (λ o. parked_there i (queue c h o) (semaphore c h o)) (creations h)) → w ≡ Some s → CallAt (parked c h) i s
  on None none j = absurd cc
  on (Some t) found j = parked_so c h legal i s found.number (found.gives ∙ j)

  at : (b : Bool) → is_past (max moment (now h)) (deadline_at h i) ≡ b → cond b (parked_anywhere (queue c h) (semaphore c h) (creations h) i) None ≡ Some s → (b ≡ true) × CallAt (parked c h) i s
  at true q j = (refl, on (parked_anywhere (queue c h) (semaphore c h) (creations h) i) (found_below (λ o. parked_there i (queue c h o) (semaphore c h o)) (creations h)) j)
  at false q j = absurd cc

-- a place that gives a tick nothing is of no parked call that is due
not_due : (c : Config) (h : History) → Legal c h → (moment t : ℕ) (p : Parked) → IsDue c h moment t p → given_to c h moment p.place ≡ None → ⊥
not_due c h legal moment t p is none =
    let there = found_anywhere c h legal t p is.parked in
    let gone : parked_anywhere (queue c h) (semaphore c h) (creations h) p.place ≡ None = rw is.past at none in
    let wrong : true ≡ false = sym there ∙ ap is_some gone in
    cc

at_least : (n i j : ℕ) → i ≡ n → (j < n → ⊥) → i ≤ j
at_least n i j e none = at (nat_lt j n) refl where
  at : (b : Bool) → nat_lt j n ≡ b → i ≤ j
  at true q = absurd (none (ltb-true _ _ q))
  at false q = let other = ltb-false _ _ q in omega arith

pub earliest_due : EarliestIsDue
earliest_due c h moment legal = at (due c h moment) (found_below (given_to c h moment) (length h)) where
  at : (w : Option ℕ) → MatchOption w (NoneBelow (given_to c h moment) (length h)) (FirstOf (given_to c h moment) (length h)) → MatchOption w ((t : ℕ) (p : Parked) → IsDue c h moment t p → ⊥) (IsEarliestDue c h moment)
  at None none = λ t p is. not_due c h legal moment t p is (none p.place (past_made h (max moment (now h)) p.place is.past))
  at (Some s) found =
      let given' = given_call c h legal moment found.number s found.gives in
      let mine = given'.1 in
      record {
        call = mine.call;
        is_due = record { parked = mine.here; past = subst (λ (i : ℕ). is_past (max moment (now h)) (deadline_at h i) ≡ true) (sym mine.place) given'.0 };
        least = λ t p is. at_least found.number mine.call.place p.place mine.place (λ lt. not_due c h legal moment t p is (found.least p.place lt));
      }

-- whose call is due is live
pub due_live : DueIsLive
due_live c h moment s legal k = at (due c h moment) k (earliest_due c h moment legal) where
  at : (w : Option ℕ) → w ≡ Some s → MatchOption w ((t : ℕ) (p : Parked) → IsDue c h moment t p → ⊥) (IsEarliestDue c h moment) → live h s ≡ true
  at None e known = absurd cc
  at (Some t) e known = let same : t ≡ s = cc in subst (λ (n : ℕ). live h n ≡ true) same (is_parked c h legal t known.call known.is_due.parked).lives
