-- Seats and books as they are seen, and what one event of a seat does to both.
use Rattle.std.specs.Prelude.{ℕ, ◌≡◌, ◌≢◌, ◌-◌, ◌<◌, ◌≤◌, ◌↔◌, Option, None, Some, List, [], ◌∷◌, ◌++◌, length, slice_get, IfSome, unwrap_or, Result, Ok, Err}
use Rattle.std.specs.Option.{option_map}
use Rattle.std.specs.Result.{IsErrAnd}
use Rattle.ipc_terms.specs.Lines.{line_of}
use Rattle.ipc_terms.specs.declared.ids.Sid.{Sid}
use Rattle.ipc_terms.specs.declared.call.Answer.{Answer}
use Rattle.ipc_terms.specs.declared.rule.Rule.{Rule}
use Rattle.ipc_terms.specs.declared.record.Event.{Event}
use Rattle.ipc_terms.specs.declared.record.Event.TheVariants.{Hello, Do, Hangup, Tick}
use Rattle.ipc_trail.specs.declared.audit.Receipt.{Receipt}
use Rattle.ipc_trail.specs.Receipts.{receipt_of}
use Rattle.ipc_policy.specs.declared.config.Config.{Config}
use Rattle.ipc_policy.specs.Decides.History.{History, record_at}
use Rattle.ipc_policy.specs.Decides.Sessions.{hellos}
use Rattle.ipc_policy.specs.Decides.Verdict.{verdict, answers, Legal}
use Rattle.ipc_state.specs.Ranges.{first_bad}
use Rattle.ipc_core.specs.CoreView.{CoreView}
use Rattle.ipc_core.specs.Boxes.{box_at}
use Rattle.ipc_core.specs.Outboxes.{after_step, session_at}
use Rattle.ipc_book.specs.declared.entry.Entry.{Entry}
use Rattle.ipc_book.specs.declared.entry.StepFault.{StepFault}
use Rattle.ipc_book.specs.declared.entry.StepFault.TheVariants.{Stale, NoMemory}
use Rattle.ipc_book.specs.declared.entry.Unstepped.{Unstepped}
use Rattle.ipc_book.specs.declared.entry.OfferFault.{OfferFault}
use Rattle.ipc_book.specs.declared.entry.OfferFault.TheVariants.{Full, Fault}

-- receipts, each with its event, the oldest first, and an amount of the ledger
pub record ReceiptsView : Type 0 where
  pub list : List Entry
  pub share : ℕ

-- a seat: its session, its receipts, each with its event, the oldest first, and its amount of the ledger
pub record SeatView : Type 0 where
  pub sid : Option Sid
  pub list : List Entry
  pub share : ℕ

-- a book: its core, how many seats it made, and the ledger's total
pub record BookView : Type 0 where
  pub core : CoreView
  pub seats : ℕ
  pub total : ℕ

-- the receipt of the record at a place, where there is one
abbrev pub receipt_at : History → ℕ → Option Receipt
receipt_at h place = option_map (λ r. receipt_of (line_of place r)) (record_at place h)

-- the receipt of an event that comes after a history
abbrev pub receipt_after : Config → History → Event → Receipt
receipt_after c h e = receipt_of (line_of (length h) (record { event = e; rule = verdict c h e }))

-- the last of a seat's receipts, if it has any
abbrev pub last_receipt : List Entry → Option Receipt
last_receipt list = option_map (λ x. x.receipt) (slice_get list (length list - 1))

-- the history has a seat's last receipt, if there is one, at its place
abbrev pub IsCurrent : History → List Entry → Type 0
IsCurrent h list = IfSome (last_receipt list) (λ p. receipt_at h p.place ≡ Some p)

-- the session as which a seat acts: nobody, where it has none
abbrev pub session_of : Option Sid → Sid
session_of sid = unwrap_or sid (record { 0 = 18446744073709551615 })

-- one event of a seat. The history was legal, under limits in their ranges, and had the seat's last receipt at its place. It grew by
-- this event alone, with its verdict, and each session was given its answers. The receipt is that of the new record, and it is now
-- the seat's last, with the event
pub record Stepped (a a' : CoreView) (list list' : List Entry) (e : Event) (r : Receipt) : Type 0 where
  pub legal : Legal a.config a.history
  pub in_range : first_bad a.config.limits ≡ None
  pub current : IsCurrent a.history list
  pub stepped : a' ≡ after_step e a
  pub receipt : r ≡ receipt_after a.config a.history e
  pub kept : list' ≡ list ++ record { receipt = r; event = e } ∷ []

-- a seat is told that it is stale exactly where it has a last receipt and something else, or nothing, stands at its place; that is
-- what was found
abbrev pub StaleExactly : {A : Type 0} → CoreView → List Entry → Result A StepFault → Type 0
StaleExactly a list result =
    (seen : Receipt) (found : Option Receipt)
    → (result ≡ Err (Stale seen found)) ↔ ((last_receipt list ≡ Some seen) × (receipt_at a.history seen.place ≡ found) × (found ≢ Some seen))

-- the same result, without the event that a fault gives back
abbrev pub without_event : {A : Type 0} → Result A Unstepped → Result A StepFault
without_event (Ok x) = Ok x
without_event (Err unstepped) = Err unstepped.fault

-- whom an event answers second, if anybody
abbrev pub other_answered : CoreView → Event → Option Sid
other_answered a e = session_at 1 (answers a.config a.history e)

-- what a seat's session has not taken yet; nothing, where the seat has none
abbrev pub untaken_of : CoreView → Option Sid → List Answer
untaken_of a None = []
untaken_of a (Some s) = box_at a.untaken s.0

-- a seat that has an offer is told that it is full exactly where its session has so many answers, or more, that it has not taken yet;
-- and else that it is stale exactly where it is
abbrev pub FullExactly : {A B : Type 0} → ℕ → ℕ → Result A (OfferFault × B) → Type 0
FullExactly most untaken result = IsErrAnd result (λ p. p.0 ≡ Full) ↔ (most ≤ untaken)

-- what is told of an offer where the seat is not full
abbrev pub step_fault : OfferFault → StepFault
step_fault Full = NoMemory
step_fault (Fault fault) = fault

abbrev pub without_full : {A B : Type 0} → Result A (OfferFault × B) → Result A StepFault
without_full (Ok x) = Ok x
without_full (Err p) = Err (step_fault p.0)

-- a seat's session after an event with this verdict, where this is the number of the next session: an accepted hello gives it the
-- session that starts, an accepted hang-up takes its session away, and all else leaves it
abbrev pub session_ruled : Option Rule → ℕ → Event → Option Sid → Option Sid
session_ruled (Some rule) next e sid = sid
session_ruled None next (Hello found) sid = Some (record { 0 = next })
session_ruled None next (Do who call) sid = sid
session_ruled None next (Hangup who) sid = None
session_ruled None next (Tick moment) sid = sid

-- a seat's session after an event that comes after what the core has
abbrev pub session_after : CoreView → Event → Option Sid → Option Sid
session_after a e sid = session_ruled (verdict a.config a.history e) (hellos a.history) e sid

-- later receipts have greater places
abbrev pub IsInOrder : List Entry → Type 0
IsInOrder list = (i j : ℕ) (x y : Entry) → i < j → slice_get list i ≡ Some x → slice_get list j ≡ Some y → x.receipt.place < y.receipt.place
