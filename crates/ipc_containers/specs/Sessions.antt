-- Whose the timed calls are, and at which place each session's stands.
use Rattle.std.specs.Prelude.{◌≡◌, ◌⊎◌, ℕ, ◌==◌, not, List, [], ◌∷◌, filter, Option, Some}
use Rattle.ipc_containers.specs.declared.timed.Timed.{Timed}

-- the call stands in the list
abbrev pub In : Timed → List Timed → Type 0
In u [] = ⊥
In u (t ∷ calls) = (t ≡ u) ⊎ In u calls

-- all but the calls of this session
abbrev pub without_session : ℕ → List Timed → List Timed
without_session s calls = filter (λ t. not (t.session.0 == s)) calls

-- none of the calls is of this session
abbrev pub NoneOf : ℕ → List Timed → Type 0
NoneOf s [] = Unit {0}
NoneOf s (t ∷ calls) = (t.session.0 ≡ s → ⊥) × NoneOf s calls

-- a call of the session and the place
pub record HasPlace (s i : ℕ) (calls : List Timed) : Type 0 where
  pub call : Timed
  pub stands : In call calls
  pub of_session : call.session.0 ≡ s
  pub at_place : call.place ≡ i

-- each session that has a call has its place, and no other session has one; and no two calls have one place
pub record IsKept (places : ℕ → Option ℕ) (calls : List Timed) : Type 0 where
  pub each : (t : Timed) → In t calls → places t.session.0 ≡ Some t.place
  pub call : (s i : ℕ) → places s ≡ Some i → HasPlace s i calls
  pub one : (t u : Timed) → In t calls → In u calls → t.place ≡ u.place → t ≡ u
