-- A list of the timed calls that are parked, in the order of their places, as a layer above may keep it: the first that is
-- over is that of the session that is due.
use Rattle.std.proofs.Common.{◌≡◌, ℕ, ◌+◌, ◌<◌, ◌≤◌, Bool, true, false, eqb, List, [], ◌∷◌, length, cond, Option, Some, None, refl, sym, ap, subst, inl, inr, ◌⊎◌, ◌∙◌, arith}
use Rattle.std.specs.Prelude.{find, max, nat_le, MatchOption}
use Rattle.std.specs.Option.{option_map}
use Rattle.std.proofs.lemmas.Bool.{eqb-true}
use Rattle.ipc_terms.specs.Lists.{Each}
use Rattle.ipc_policy.specs.declared.config.Config.{Config}
use Rattle.ipc_policy.specs.Decides.History.{History}
use Rattle.ipc_policy.specs.Decides.Timed.{now, deadline_at, is_past}
use Rattle.ipc_policy.specs.Decides.Bodies.{due}
use Rattle.ipc_policy.specs.Decides.Parking.{Parked, parked}
use Rattle.ipc_policy.specs.Follows.Readings.{Rising}
use Rattle.ipc_policy.specs.Decides.Verdict.{Legal}
use Rattle.ipc_policy.specs.Follows.Ticks.{IsDue, IsEarliestDue}
use Rattle.ipc_policy.specs.Follows.CallLists.{In, IsTimedCall, HasCall, IsCallList, IsTimedList}
use Rattle.ipc_policy.proofs.Blocked.Earliest.{earliest_due}

pub in_each : {A : Type 0} (P : A → Type 0) (y : A) (xs : List A) → Each P xs → In y xs → P y
in_each P y [] all is = absurd is
in_each P y (x ∷ xs) all (inl same) = subst P same all.0
in_each P y (x ∷ xs) all (inr rest) = in_each P y xs all.1 rest

pub found_in : {A : Type 0} (test : A → Bool) (x : A) (xs : List A) → find test xs ≡ Some x → In x xs × (test x ≡ true)
found_in test x [] e = absurd cc
found_in {A = A} test x (y ∷ xs) e = at (test y) refl e (found_in test x xs) where
  at : (b : Bool) → test y ≡ b → cond b (Some y) (find test xs) ≡ Some x → (find test xs ≡ Some x → In x xs × (test x ≡ true)) → ((y ≡ x) ⊎ In x xs) × (test x ≡ true)
  at true q k rest = let same : y ≡ x = cc in (inl same, ap test (sym same) ∙ q)
  at false q k rest = let found = rest k in (inr found.0, found.1)

none_found : {A : Type 0} (test : A → Bool) (y : A) (xs : List A) → find test xs ≡ None → In y xs → test y ≡ false
none_found test y [] e is = absurd is
none_found {A = A} test y (x ∷ xs) e is = at (test x) refl e is (none_found test y xs) where
  at : (b : Bool) → test x ≡ b → cond b (Some x) (find test xs) ≡ None → (x ≡ y) ⊎ In y xs → (find test xs ≡ None → In y xs → test y ≡ false) → test y ≡ false
  at true q k i rest = absurd cc
  at false q k (inl same) rest = ap test (sym same) ∙ q
  at false q k (inr there) rest = rest k there

-- all places of a rising list are at or above its start
from_start : {A : Type 0} (place : A → ℕ) (lo : ℕ) (y : A) (xs : List A) (hi : ℕ) → Rising place lo xs hi → In y xs → lo ≤ place y
from_start place lo y [] hi r is = absurd is
from_start place lo y (x ∷ xs) hi r (inl same) = subst (λ z. lo ≤ place z) same r.0
from_start place lo y (x ∷ xs) hi r (inr there) = let rest = from_start place (place x + 1) y xs hi r.1 there in let first = r.0 in omega arith

-- so the first that passes has the least place of those that pass
found_first : {A : Type 0} (place : A → ℕ) (test : A → Bool) (lo : ℕ) (x y : A) (xs : List A) (hi : ℕ) → Rising place lo xs hi → find test xs ≡ Some x → In y xs → test y ≡ true → place x ≤ place y
found_first place test lo x y [] hi r e is passes = absurd is
found_first {A = A} place test lo x y (z ∷ xs) hi r e is passes = at (test z) refl e is (found_first place test (place z + 1) x y xs hi r.1) where
  at : (b : Bool) → test z ≡ b → cond b (Some z) (find test xs) ≡ Some x → (z ≡ y) ⊎ In y xs → (find test xs ≡ Some x → In y xs → test y ≡ true → place x ≤ place y) → place x ≤ place y
  at true q k (inl same) rest = let here : z ≡ x = cc in let e : place z ≡ place x = ap place here in let f : place z ≡ place y = ap place same in omega arith
  at true q k (inr there) rest = let here : z ≡ x = cc in let e : place z ≡ place x = ap place here in let after = from_start place (place z + 1) y xs hi r.1 there in omega arith
  at false q k (inl same) rest = absurd (let wrong : true ≡ false = sym passes ∙ ap test (sym same) ∙ q in cc)
  at false q k (inr there) rest = rest k there passes

-- and no two have one place
same_place : {A : Type 0} (place : A → ℕ) (lo : ℕ) (x y : A) (xs : List A) (hi : ℕ) → Rising place lo xs hi → In x xs → In y xs → place x ≡ place y → x ≡ y
same_place place lo x y [] hi r is js e = absurd is
same_place place lo x y (z ∷ xs) hi r (inl p) (inl q) e = sym p ∙ q
same_place place lo x y (z ∷ xs) hi r (inl p) (inr js) e = absurd (let after = from_start place (place z + 1) y xs hi r.1 js in let f : place z ≡ place x = ap place p in omega arith)
same_place place lo x y (z ∷ xs) hi r (inr is) (inl q) e = absurd (let after = from_start place (place z + 1) x xs hi r.1 is in let f : place z ≡ place y = ap place q in omega arith)
same_place place lo x y (z ∷ xs) hi r (inr is) (inr js) e = same_place place (place z + 1) x y xs hi r.1 is js e

past_some : (m : ℕ) (w : Option ℕ) → is_past m w ≡ true → (t : ℕ) × (w ≡ Some t) × (nat_le t m ≡ true)
past_some m None e = absurd cc
past_some m (Some t) e = (t, refl, e)

-- the first of the list that is over is of the session that is due
pub first_is_due : {A : Type 0} (place session deadline : A → ℕ) (c : Config) (h : History) (xs : List A) (moment : ℕ) → Legal c h → IsTimedList place session deadline c h xs → option_map session (find (λ x. nat_le (deadline x) (max moment (now h))) xs) ≡ due c h moment
first_is_due {A = A} place session deadline c h xs moment legal listed = at (find over xs) refl (due c h moment) (earliest_due c h moment legal) where
  over : A → Bool
  over x = nat_le (deadline x) (max moment (now h))

  -- a call that is due stands in the list, and is over
  stands : (s : ℕ) (p : Parked) → IsDue c h moment s p → (y : A) × In y xs × (session y ≡ s) × (place y ≡ p.place) × (over y ≡ true)
  stands s p is =
      let t = past_some (max moment (now h)) (deadline_at h p.place) is.past in
      let has = listed.all s p t.0 is.parked t.1 in
      let call = in_each (λ x. IsTimedCall (parked c h) (deadline_at h) (session x) (place x) (deadline x)) has.item xs listed.each has.stands in
      let both : Some (deadline has.item) ≡ Some t.0 = sym call.until ∙ ap (deadline_at h) has.at_place ∙ t.1 in
      let same : deadline has.item ≡ t.0 = cc in
      (has.item, has.stands, has.of_session, has.at_place, ap (λ n. nat_le n (max moment (now h))) same ∙ t.2)

  -- an item that is over is due
  is_due : (x : A) → In x xs → over x ≡ true → (p : Parked) × IsDue c h moment (session x) p × (p.place ≡ place x)
  is_due x is passes =
      let call = in_each (λ x. IsTimedCall (parked c h) (deadline_at h) (session x) (place x) (deadline x)) x xs listed.each is in
      (call.call, record { parked = call.here; past = ap (λ n. is_past (max moment (now h)) (deadline_at h n)) call.place ∙ ap (is_past (max moment (now h))) call.until ∙ passes }, call.place)

  at : (w : Option A) → find over xs ≡ w → (v : Option ℕ) → MatchOption v ((t : ℕ) (p : Parked) → IsDue c h moment t p → ⊥) (IsEarliestDue c h moment) → option_map session w ≡ v
  at None e None none = refl
  at None e (Some s) first =
      let mine = stands s first.call first.is_due in
      absurd (let wrong : true ≡ false = sym mine.4 ∙ none_found over mine.0 xs e mine.1 in cc)
  at (Some x) e None none =
      let found = found_in over x xs e in
      let mine = is_due x found.0 found.1 in
      absurd (none (session x) mine.0 mine.1)
  at (Some x) e (Some s) first =
      let found = found_in over x xs e in
      let mine = is_due x found.0 found.1 in
      let its = stands s first.call first.is_due in
      let before : first.call.place ≤ mine.0.place = first.least (session x) mine.0 mine.1 in
      let after : place x ≤ place its.0 = found_first place over 0 x its.0 xs (length h) listed.rising e its.1 its.4 in
      let here : mine.0.place ≡ place x = mine.2 in
      let there : place its.0 ≡ first.call.place = its.3 in
      let one : x ≡ its.0 = same_place place 0 x its.0 xs (length h) listed.rising found.0 its.1 (omega arith) in
      ap Some (ap session one ∙ its.2)
