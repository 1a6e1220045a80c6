-- How many links a loop opens.
use Rattle.std.specs.Prelude.{◌≡◌, ◌⊎◌, ◌<◌, ◌≤◌, nat_le, Bool, false, ℕ, List, [], ◌∷◌, ◌++◌, length, Option, Some, None, MatchOption, ⊤}
use Rattle.ipc_loop.specs.Ports.{Port, new_port, how_many_open}
use Rattle.ipc_loop.specs.declared.accepting.Bounds.{Bounds}

-- whether as many links were accepted as are to be; never, where there is no such number
abbrev pub are_all : Option ℕ → ℕ → Bool
are_all None accepted = false
are_all (Some count) accepted = nat_le count accepted

-- no more links are open, and no more were accepted, than may be. Each that was accepted has its place among the ports
pub record IsWithin (bounds : Bounds) (ports : List (Option Port)) : Type 0 where
  pub opened : how_many_open ports ≤ bounds.most
  pub accepted : MatchOption bounds.stop_after ⊤ (λ count. length ports ≤ count)

-- another may be
pub record HasRoom (bounds : Bounds) (ports : List (Option Port)) : Type 0 where
  pub opened : how_many_open ports < bounds.most
  pub accepted : are_all bounds.stop_after (length ports) ≡ false

-- one more link is accepted, or none
abbrev pub AddsAtMostOne : List (Option Port) → List (Option Port) → Type 0
AddsAtMostOne ports ports' = (ports' ≡ ports) ⊎ (ports' ≡ ports ++ Some new_port ∷ [])
