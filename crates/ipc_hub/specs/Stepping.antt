-- Stepping the frames in front of a connection's bytes: from core a, session s and bytes w to core b, session t and the
-- rest of the bytes.
use Rattle.std.specs.Prelude.{◌≡◌, Bool, true, false, ℕ, ◌≤◌, ◌+◌, ◌-◌, leb, max, List, [], length, drop, take, Option, Some, None, is_none, ⊤}
use Rattle.ipc_terms.specs.declared.ids.Sid.{Sid}
use Rattle.ipc_core.specs.Outboxes.{after_steps}
use Rattle.ipc_core.specs.CoreView.{CoreView}
use Rattle.ipc_fields.specs.declared.fault.WireFault.{WireFault}
use Rattle.ipc_wire.specs.declared.request.Request.{Request}
use Rattle.ipc_wire.specs.Streams.{cut, after}
use Rattle.ipc_hub.specs.declared.fed.Fed.{Fed}
use Rattle.ipc_hub.specs.declared.fed.Fed.TheVariants.{Done, Short, Full, Over}
use Rattle.ipc_hub.specs.declared.fed.End.TheVariants.{Wire, BadKey}
use Rattle.ipc_hub.specs.Marking.{is_set}
use Rattle.ipc_hub.specs.MarkedCore.{MarkedView, IsOwned, Follows}
use Rattle.ipc_hub.specs.Hub.{Connection, untaken_of, Steps, events_of, is_hello_refused, hang_up_of}

-- what is kept of a connection that is not over
pub record Stream : Type 0 where
  pub kept : List ℕ
  pub session : Option Sid

-- the requests in front are stepped, and the rest is cut into the others
pub record StepsFront (a : CoreView) (s : Option Sid) (w : List ℕ) (b : CoreView) (t : Option Sid) (rest : List ℕ) : Type 0 where
  pub done : List Request
  pub steps : Steps a s done b t
  pub others : cut (is_none s) w ≡ after done (cut (is_none t) rest)

-- all before the fault are stepped, and then the session is hung up
pub record HangsUpAtFault (fault : WireFault) (a : CoreView) (s : Option Sid) (w : List ℕ) (b : CoreView) (t : Option Sid) (rest : List ℕ) : Type 0 where
  pub middle : CoreView
  pub frames : StepsFront a s w middle t rest
  pub fault_is : cut (is_none t) rest ≡ record { requests = []; rest = rest; fault = Some fault }
  pub hung_up : b ≡ after_steps (hang_up_of t) middle

-- the hello in front is refused
pub record RefusesHello (a : CoreView) (s : Option Sid) (w : List ℕ) (b : CoreView) (t : Option Sid) : Type 0 where
  pub refused : is_hello_refused a s (cut (is_none s) w).requests ≡ true
  pub core : b ≡ after_steps (take 1 (events_of a s (cut (is_none s) w).requests)) a
  pub session : t ≡ s

abbrev pub StepsFrames : Fed → CoreView → Option Sid → List ℕ → CoreView → Option Sid → List ℕ → Type 0
StepsFrames Done a s w b t rest = StepsFront a s w b t rest × (cut (is_none t) rest ≡ record { requests = []; rest = rest; fault = None })
StepsFrames Short a s w b t rest = StepsFront a s w b t rest
StepsFrames Full a s w b t rest = StepsFront a s w b t rest
StepsFrames (Over (Wire fault)) a s w b t rest = HangsUpAtFault fault a s w b t rest
StepsFrames (Over BadKey) a s w b t rest = RefusesHello a s w b t

-- ---- marks, and how many answers are untaken: where the frames are connection i's

-- where its session starts, the connection is marked, and the session is its own until it ends
pub record Starts (new : MarkedView) (i : ℕ) (s t : Option Sid) : Type 0 where
  pub marked : s ≡ None → (sid : Sid) → t ≡ Some sid → is_set new.marked i ≡ true
  pub owner : s ≡ None → (sid : Sid) → t ≡ Some sid → IsOwned new sid.0 i

-- whether so many are untaken as are allowed; never, where all are
abbrev pub is_full : Option ℕ → ℕ → Bool
is_full None count = false
is_full (Some most) count = leb most count

-- no more are untaken than before, or than one more than are allowed
abbrev pub IsWithin : Option ℕ → ℕ → ℕ → Type 0
IsWithin None before now = ⊤
IsWithin (Some most) before now = now ≤ max before (most + 1)

-- how many of a session's answers are untaken
abbrev pub count_of : MarkedView → Option Sid → ℕ
count_of m s = length (untaken_of m.core s)

-- from one moment to another
pub record Goes (i : ℕ) (most : Option ℕ) (old : MarkedView) (s : Option Sid) (new : MarkedView) (t : Option Sid) : Type 0 where
  pub follows : Follows old new
  pub starts : Starts new i s t
  pub within : IsWithin most (count_of old s) (count_of new t)

-- at the end: a refused hello's connection is marked too
pub record Ends (fed : Fed) (i : ℕ) (most : Option ℕ) (old : MarkedView) (s : Option Sid) (new : MarkedView) (t : Option Sid) : Type 0 where
  pub goes : Goes i most old s new t
  pub refused : fed ≡ Over BadKey → is_set new.marked i ≡ true
  pub full : fed ≡ Full → is_full most (count_of new t) ≡ true

-- ---- where it leaves the connection

-- the connection once its frames were stepped so: one that is over keeps nothing
abbrev pub connection_after : Fed → Connection → Connection
connection_after Done x = x
connection_after Short x = x
connection_after Full x = x
connection_after (Over (Wire fault)) x = record x { kept = []; is_over = true }
connection_after (Over BadKey) x = record x { kept = []; has_refusal = true; is_over = true }

-- the rest is the end of the bytes
pub record IsEnd (rest bytes : List ℕ) : Type 0 where
  pub within : length rest ≤ length bytes
  pub dropped : rest ≡ drop (length bytes - length rest) bytes
