-- Lists of the timed calls that are parked, as a layer above may keep them.
use Rattle.std.specs.Prelude.{◌≡◌, ◌⊎◌, ℕ, ◌==◌, not, List, [], ◌∷◌, ◌++◌, filter, length, Option, Some, None}
use Rattle.ipc_terms.specs.Lists.{Each}
use Rattle.ipc_policy.specs.declared.config.Config.{Config}
use Rattle.ipc_policy.specs.Decides.History.{History}
use Rattle.ipc_policy.specs.Decides.Timed.{deadline_at}
use Rattle.ipc_policy.specs.Decides.Parking.{Parked, parked}
use Rattle.ipc_policy.specs.Follows.Readings.{Rising}

-- the item stands in the list
abbrev pub In : {A : Type 0} → A → List A → Type 0
In y [] = ⊥
In y (x ∷ xs) = (x ≡ y) ⊎ In y xs

-- this is a timed call of the session, which is parked
pub record IsTimedCall (parked' : ℕ → Option Parked) (until' : ℕ → Option ℕ) (s i t : ℕ) : Type 0 where
  pub call : Parked
  pub here : parked' s ≡ Some call
  pub place : call.place ≡ i
  pub until : until' i ≡ Some t

-- the list has the call of the session and the place
pub record HasCall {A : Type 0} (place session : A → ℕ) (s i : ℕ) (xs : List A) : Type 0 where
  pub item : A
  pub stands : In item xs
  pub of_session : session item ≡ s
  pub at_place : place item ≡ i

-- the list has each timed call that is parked, and no other, in the order of the places, which are below this one: by
-- what each session is parked in, and by the deadline of each place
pub record IsCallList {A : Type 0} (place session deadline : A → ℕ) (parked' : ℕ → Option Parked) (until' : ℕ → Option ℕ) (n : ℕ) (xs : List A) : Type 0 where
  pub rising : Rising place 0 xs n
  pub each : Each (λ x. IsTimedCall parked' until' (session x) (place x) (deadline x)) xs
  pub all : (s : ℕ) (p : Parked) (t : ℕ) → parked' s ≡ Some p → until' p.place ≡ Some t → HasCall place session s p.place xs

-- after a history
abbrev pub IsTimedList : {A : Type 0} → (A → ℕ) → (A → ℕ) → (A → ℕ) → Config → History → List A → Type 0
IsTimedList place session deadline c h xs = IsCallList place session deadline (parked c h) (deadline_at h) (length h) xs

-- the list without the call that an event ends
abbrev pub dropped : {A : Type 0} → (A → ℕ) → Option ℕ → List A → List A
dropped session None xs = xs
dropped session (Some s) xs = filter (λ x. not (session x == s)) xs

-- and with the timed call that parks
abbrev pub joined : {A : Type 0} → Option A → List A → List A
joined None xs = xs
joined (Some x) xs = xs ++ x ∷ []
