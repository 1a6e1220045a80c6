-- How many of a connection's requests are stepped.
use Rattle.std.specs.Prelude.{◌≡◌, ◌⊎◌, ◌-◌, ◌+◌, ◌^◌, min, length, ℕ, List, [], ◌∷◌, Option, Result, Ok, Err}
use Rattle.ipc_terms.specs.declared.ids.Sid.{Sid}
use Rattle.ipc_terms.specs.declared.record.Event.{Event}
use Rattle.ipc_terms.specs.declared.record.Event.TheVariants.{Hangup}
use Rattle.ipc_core.specs.Outboxes.{after_steps}
use Rattle.ipc_wire.specs.declared.request.Request.{Request}
use Rattle.ipc_hub.specs.Hub.{Hub, events_of}
use Rattle.ipc_hub.specs.declared.fed.Fed.{Fed}
use Rattle.ipc_hub.specs.declared.fed.Fed.TheVariants.{Over}
use Rattle.ipc_hub.specs.declared.fed.End.TheVariants.{Wire}
use Rattle.ipc_hub.specs.declared.fed.HubFault.{HubFault}
use Rattle.ipc_loop.specs.Ports.{Port}

-- how many of so many events that a feed recorded are requests
abbrev pub requests_among : ℕ → Result Fed HubFault → ℕ
requests_among events (Ok (Over (Wire fault))) = events - 1
requests_among events _ = events

-- so many requests of a session are stepped, and behind them perhaps its hang-up
pub record StepsRequests (count : ℕ) (hub hub' : Hub) : Type 0 where
  pub session : Option Sid
  pub requests : List Request
  pub counted : length requests ≡ count
  pub behind : List Event
  pub hang_up : (behind ≡ []) ⊎ ((sid : Sid) × (behind ≡ Hangup sid ∷ []))
  pub core : hub'.core ≡ after_steps behind (after_steps (events_of hub.core session requests) hub.core)

-- the requests that were stepped since are counted
abbrev pub Counts : Hub → Port → Hub → Port → Type 0
Counts hub port hub' port' = (count : ℕ) × (port'.requests ≡ min (port.requests + count) (2 ^ 64 - 1)) × StepsRequests count hub hub'
