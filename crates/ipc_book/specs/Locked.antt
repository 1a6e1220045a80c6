-- What is learned of a book, and what through a lock, which hides the book.
use Rattle.std.specs.Prelude.{ℕ, ◌≡◌, ◌≢◌, ◌⊎◌, Option, None, Some, List, [], ◌∷◌, ◌++◌, length, Result, Err, IsSome}
use Rattle.std.specs.Option.{option_map}
use Rattle.ipc_terms.specs.Lists.{changed}
use Rattle.ipc_terms.specs.Lines.{event_op, rule_number}
use Rattle.ipc_terms.specs.Events.{caller}
use Rattle.ipc_terms.specs.declared.ids.Sid.{Sid}
use Rattle.ipc_terms.specs.declared.call.Answer.{Answer}
use Rattle.ipc_terms.specs.declared.record.Event.{Event}
use Rattle.ipc_terms.specs.declared.record.Event.TheVariants.{Tick}
use Rattle.ipc_trail.specs.declared.audit.Receipt.{Receipt}
use Rattle.ipc_policy.specs.declared.config.Config.{Config}
use Rattle.ipc_policy.specs.Decides.History.{History}
use Rattle.ipc_policy.specs.Decides.Sessions.{hellos}
use Rattle.ipc_policy.specs.Decides.Bodies.{due}
use Rattle.ipc_policy.specs.Decides.Verdict.{verdict, Legal, outbox}
use Rattle.ipc_state.specs.Ranges.{first_bad}
use Rattle.ipc_core.specs.CoreView.{CoreView}
use Rattle.ipc_core.specs.Boxes.{box_at, taken}
use Rattle.ipc_core.specs.Outboxes.{IsSuffix}
use Rattle.ipc_book.specs.declared.entry.Entry.{Entry}
use Rattle.ipc_book.specs.declared.entry.StepFault.{StepFault}
use Rattle.ipc_book.specs.declared.entry.StepFault.TheVariants.{Stale}
use Rattle.ipc_book.specs.Seats.{SeatView, last_receipt, IsCurrent, session_of, session_ruled}

-- what the receipt of an event says, of this configuration. There is a history, legal under it, which had the seat's last receipt at
-- its place and was as long as the new receipt's place; its verdict on this very event is the receipt's rule. The receipt has the
-- event's session and number, it is now the seat's last, with the event, and the seat's session is what the verdict makes of it
pub record ReceiptSays (c : Config) (seat seat' : SeatView) (e : Event) (r : Receipt) : Type 0 where
  pub history : History
  pub legal : Legal c history
  pub in_range : first_bad c.limits ≡ None
  pub current : IsCurrent history seat.list
  pub place : length history ≡ r.place
  pub ruled : rule_number (verdict c history e) ≡ r.rule
  pub op : r.op ≡ event_op e
  pub by : r.sid ≡ caller e
  pub kept : seat'.list ≡ seat.list ++ record { receipt = r; event = e } ∷ []
  pub session : seat'.sid ≡ session_ruled (verdict c history e) (hellos history) e seat.sid

-- what the receipt of a tick that ended a call says, of this configuration: in the history before it, some session's call was due at
-- this moment
abbrev pub EndedCall : Config → SeatView → SeatView → ℕ → Receipt → Type 0
EndedCall c seat seat' moment r = (says : ReceiptSays c seat seat' (Tick moment) r) × IsSome (due c says.history moment)

-- which session's call is due, of this configuration: there is a history, legal under it, after which a tick of this moment ends that
-- session's call, and none where there is no session
pub record DueSays (c : Config) (moment : ℕ) (found : Option Sid) : Type 0 where
  pub history : History
  pub legal : Legal c history
  pub in_range : first_bad c.limits ≡ None
  pub due : option_map (λ s. s.0) found ≡ due c history moment

-- a stale seat is told its last receipt, and what else stood at its place
abbrev pub StaleSays : {A : Type 0} → List Entry → Result A StepFault → Type 0
StaleSays list result = (seen : Receipt) (found : Option Receipt) → result ≡ Err (Stale seen found) → (last_receipt list ≡ Some seen) × (found ≢ Some seen)

-- what a seat collects: what its session has not taken yet, and this alone is emptied; nothing, where it has no session or is stale
abbrev pub Collects : Option Sid → CoreView → CoreView → List Entry → List Answer → Type 0
Collects None a a' list out = (out ≡ []) × (a' ≡ a)
Collects (Some s) a a' list out =
    (IsCurrent a.history list × (out ≡ box_at a.untaken s.0) × (a' ≡ record a { untaken = changed taken a.untaken s.0 }))
    ⊎ ((IsCurrent a.history list → ⊥) × (out ≡ []) × (a' ≡ a))

-- what collected answers say, of this configuration. There is a history, legal under it, in which they are the last of all that the
-- seat's session was answered while it was live, and which has the seat's last receipt at its place, unless there are none
pub record AnswersSay (c : Config) (sid : Option Sid) (list : List Entry) (out : List Answer) : Type 0 where
  pub history : History
  pub legal : Legal c history
  pub in_range : first_bad c.limits ≡ None
  pub last : IsSuffix out (outbox c history (session_of sid).0)
  pub current : (out ≡ []) ⊎ IsCurrent history list
