-- Calls that wait, by the numbers of their arrivals.
use Rattle.std.specs.Prelude.{ℕ, ◌+◌, ◌≤◌, ◌==◌, Bool, List, [], ◌∷◌, if◌then◌else◌}
use Rattle.ipc_terms.specs.declared.ids.Sid.{Sid}
use Rattle.ipc_containers.specs.declared.buckets.Buckets.{Buckets}
use Rattle.ipc_containers.specs.Buckets.{Holds}

-- whether this is a call of the session
abbrev pub is_call_of : {T : Type 0} → (T → ℕ) → Sid → T → Bool
is_call_of caller session call = caller call == session.0

-- the numbers of the session's calls, in the order of arrival
abbrev pub numbers_of : {T : Type 0} → (T → ℕ) → ℕ → List (ℕ × T) → List ℕ
numbers_of caller session [] = []
numbers_of caller session ((number, call) ∷ calls) = if session == caller call then number ∷ numbers_of caller session calls else numbers_of caller session calls

-- the numbers rise, from `low` on and below `next`
abbrev pub Rise : {T : Type 0} → ℕ → List (ℕ × T) → ℕ → Type 0
Rise low [] next = low ≤ next
Rise low ((number, call) ∷ calls) next = (low ≤ number) × Rise (number + 1) calls next

-- the numbers rise below the next, and each session's stand in its bucket
pub record InLine {T : Type 0} (caller : T → ℕ) (calls : List (ℕ × T)) (numbers : Buckets ℕ) (next : ℕ) : Type 0 where
  pub rising : Rise 0 calls next
  pub held : Holds numbers (λ session. numbers_of caller session calls)
