-- Whom an event answers.
use Rattle.std.specs.Prelude.{◌≡◌, ℕ, Bool, true, false, List, [], ◌∷◌, Option, Some, None}
use Rattle.ipc_terms.specs.declared.rule.Rule.{Rule}
use Rattle.ipc_terms.specs.declared.ids.Sid.{Sid}
use Rattle.ipc_terms.specs.declared.ids.Uid.{Uid}
use Rattle.ipc_terms.specs.declared.call.Call.{Call}
use Rattle.ipc_terms.specs.declared.call.Answer.{Answer}
use Rattle.ipc_terms.specs.declared.call.Answer.TheVariants.{Started, Notice, Taken, Refused}
use Rattle.ipc_terms.specs.declared.record.Event.{Event}
use Rattle.ipc_terms.specs.declared.record.Event.TheVariants.{Hello, Do, Hangup, Tick}
use Rattle.ipc_policy.specs.declared.config.Config.{Config}
use Rattle.ipc_policy.specs.Decides.History.{History}
use Rattle.ipc_policy.specs.Decides.Sessions.{hellos}
use Rattle.ipc_policy.specs.Decides.Bodies.{due}
use Rattle.ipc_policy.specs.Decides.Parking.{Parked, parks}
use Rattle.ipc_policy.specs.Decides.Verdict.{verdict, caller, Legal, answers, tick_answers}

-- the answer is a notice, or tells of a description that another session gave, which nobody calls for
abbrev pub is_uncalled : Answer → Bool
is_uncalled (Notice desc) = true
is_uncalled (Taken desc) = true
is_uncalled _ = false

-- the first of the answers is the session's, and it was called for
pub record IsAnsweredFirst (sid : Sid) (answered : List (Sid × Answer)) : Type 0 where
  pub answer : Answer
  pub others : List (Sid × Answer)
  pub whole : answered ≡ (sid, answer) ∷ others
  pub called_for : is_uncalled answer ≡ false

-- after a legal history an accepted call that does not park is answered to its session, before anybody else
abbrev pub EachCallIsAnswered : Type 0
EachCallIsAnswered =
    (c : Config) (h : History) (sid : Sid) (call : Call) → Legal c h → verdict c h (Do sid call) ≡ None →
    parks c sid.0 (Do sid call) h ≡ None → IsAnsweredFirst sid (answers c h (Do sid call))

-- an accepted call that parks answers nobody
abbrev pub ParkingAnswersNobody : Type 0
ParkingAnswersNobody =
    (c : Config) (h : History) (sid : Sid) (call : Call) (p : Parked) → verdict c h (Do sid call) ≡ None →
    parks c sid.0 (Do sid call) h ≡ Some p → answers c h (Do sid call) ≡ []

-- an accepted hello answers the session that it starts, alone, with its number
abbrev pub HelloAnswersItsSession : Type 0
HelloAnswersItsSession =
    (c : Config) (h : History) (found : Option Uid) → verdict c h (Hello found) ≡ None →
    answers c h (Hello found) ≡ (record { 0 = hellos h }, Started (record { 0 = hellos h })) ∷ []

-- an accepted hang-up answers nobody
abbrev pub HangupAnswersNobody : Type 0
HangupAnswersNobody = (c : Config) (h : History) (sid : Sid) → verdict c h (Hangup sid) ≡ None → answers c h (Hangup sid) ≡ []

-- a refusal is answered to the session that the event names, alone
abbrev pub RefusalAnswersItsCaller : Type 0
RefusalAnswersItsCaller =
    (c : Config) (h : History) (e : Event) (rule : Rule) → verdict c h e ≡ Some rule →
    answers c h e ≡ (caller e, Refused rule) ∷ []

-- a tick is always accepted, and answers the session whose call it ends, alone, where there is one
pub record IsTickAnswered (c : Config) (h : History) (moment : ℕ) : Type 0 where
  pub accepted : verdict c h (Tick moment) ≡ None
  pub answered : answers c h (Tick moment) ≡ tick_answers (due c h moment)

abbrev pub EachTickIsAnswered : Type 0
EachTickIsAnswered = (c : Config) (h : History) (moment : ℕ) → IsTickAnswered c h moment
