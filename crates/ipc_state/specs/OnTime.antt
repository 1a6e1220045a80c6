-- What the clock has to do with the history: the time, and the timed calls that are parked.
use Rattle.std.specs.Prelude.{◌≡◌, ℕ, Bool, true, List, Option, Some, None, option_and_then}
use Rattle.std.specs.Option.{option_map}
use Rattle.ipc_terms.specs.Lists.{first}
use Rattle.ipc_terms.specs.declared.ids.Sid.{Sid}
use Rattle.ipc_terms.specs.declared.call.Call.TheVariants.{MqSend, MqReceive, SemPost, Interrupt}
use Rattle.ipc_terms.specs.declared.record.Event.{Event}
use Rattle.ipc_terms.specs.declared.record.Event.TheVariants.{Do, Hangup, Tick}
use Rattle.ipc_containers.specs.declared.timed.Timed.{Timed}
use Rattle.ipc_containers.specs.Calls.{AllBelow}
use Rattle.ipc_containers.specs.Sessions.{NoneOf}
use Rattle.ipc_tables.specs.TablesView.{TablesView}
use Rattle.ipc_state.specs.declared.clock.Clock.{Clock}
use Rattle.ipc_state.specs.Agrees.{IsCore}
use Rattle.ipc_policy.specs.Follows.CallLists.{IsTimedList}
use Rattle.ipc_policy.specs.declared.config.Config.{Config}
use Rattle.ipc_policy.specs.Decides.History.{History}
use Rattle.ipc_policy.specs.Decides.Timed.{now}
use Rattle.ipc_policy.specs.Decides.Descriptions.{holds}
use Rattle.ipc_policy.specs.Decides.Bodies.{senders, receivers, waiters, due}

-- the session whose parked call the event ends, if it is accepted; a timed call ends what it does without its deadline
abbrev pub ended_call : Config → History → Event → Option ℕ
ended_call c h (Do sid (MqSend desc priority bytes)) = option_and_then (λ x. option_map (λ w. w.session) (first (receivers c h x.object))) (holds h sid.0 desc.0)
ended_call c h (Do sid (MqReceive desc length')) = option_and_then (λ x. option_map (λ m. m.session) (first (senders c h x.object))) (holds h sid.0 desc.0)
ended_call c h (Do sid (SemPost desc)) = option_and_then (λ x. option_map (λ w. w.session) (first (waiters c h x.object))) (holds h sid.0 desc.0)
ended_call c h (Do sid Interrupt) = Some sid.0
ended_call c h (Hangup sid) = Some sid.0
ended_call c h (Tick moment) = due c h moment
ended_call c h _ = None

-- the timed call that parks
abbrev pub new_call : Bool → Option ℕ → ℕ → Sid → Option Timed
new_call true (Some deadline) place sid = Some (record { place = place; session = sid; deadline = deadline })
new_call _ _ place sid = None

abbrev pub place_of : Timed → ℕ
place_of t = t.place

abbrev pub session_of : Timed → ℕ
session_of t = t.session.0

abbrev pub deadline_told : Timed → ℕ
deadline_told t = t.deadline

-- the list of the timed calls that are parked
abbrev pub IsClock : Config → History → List Timed → Type 0
IsClock c h calls = IsTimedList place_of session_of deadline_told c h calls

-- the clock tells the time of the history and has its timed calls
pub record IsOnTime (c : Config) (h : History) (k : Clock) : Type 0 where
  pub time : k.time ≡ now h
  pub calls : IsClock c h k.calls

-- a call may come: it is behind all others, and its session has none
pub record MayCome (call : Timed) (calls : List Timed) : Type 0 where
  pub behind : AllBelow call.place calls
  pub free : NoneOf call.session.0 calls

-- with these calls
abbrev pub with_calls : List Timed → Clock → Clock
with_calls calls k = record k { calls = calls }

-- the tables and the clock are the history's
pub record IsState (c : Config) (h : History) (t : TablesView) (k : Clock) : Type 0 where
  pub core : IsCore c h t
  pub on_time : IsOnTime c h k
