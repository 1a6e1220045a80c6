-- What ticks end, and what timed calls do: laws that hold of every history, or of every legal one where they say so.
use Rattle.std.specs.Prelude.{◌≡◌, true, ℕ, ◌≤◌, ◌&&◌, ◌==◌, max, Some, None, is_some, MatchOption, if◌then◌else◌}
use Rattle.std.specs.Option.{option_or}
use Rattle.ipc_terms.specs.Timed.{plain, deadline}
use Rattle.ipc_terms.specs.declared.rule.Rule.TheVariants.{TimedOut}
use Rattle.ipc_terms.specs.declared.ids.Sid.{Sid}
use Rattle.ipc_terms.specs.declared.call.Call.{Call}
use Rattle.ipc_terms.specs.declared.record.Event.{Event}
use Rattle.ipc_terms.specs.declared.record.Event.TheVariants.{Do, Tick}
use Rattle.ipc_policy.specs.declared.config.Config.{Config}
use Rattle.ipc_policy.specs.Decides.History.{History, after_accepted, is_some_and}
use Rattle.ipc_policy.specs.Decides.Timed.{now, deadline_at, is_past}
use Rattle.ipc_policy.specs.Decides.Sessions.{live}
use Rattle.ipc_policy.specs.Decides.Bodies.{due}
use Rattle.ipc_policy.specs.Decides.Parking.{Parked, parks, parked}
use Rattle.ipc_policy.specs.Decides.Rules.{would_park}
use Rattle.ipc_policy.specs.Decides.Verdict.{Legal, verdict, answers}

-- session s is parked in this call, and its deadline is past at a tick of this moment
pub record IsDue (c : Config) (h : History) (moment s : ℕ) (p : Parked) : Type 0 where
  pub parked : parked c h s ≡ Some p
  pub past : is_past (max moment (now h)) (deadline_at h p.place) ≡ true

-- so is session s, and no session in an earlier call
pub record IsEarliestDue (c : Config) (h : History) (moment s : ℕ) : Type 0 where
  pub call : Parked
  pub is_due : IsDue c h moment s call
  pub least : (t : ℕ) (p : Parked) → IsDue c h moment t p → call.place ≤ p.place

-- in a legal history a tick ends the earliest parked call whose deadline is then past, where there is one
abbrev pub EarliestIsDue : Type 0
EarliestIsDue =
    (c : Config) (h : History) (moment : ℕ) → Legal c h →
    MatchOption (due c h moment) ((t : ℕ) (p : Parked) → IsDue c h moment t p → ⊥) (IsEarliestDue c h moment)

-- it ends the parked call of that session, and no other
abbrev pub TickEndsOne : Type 0
TickEndsOne =
    (c : Config) (h : History) (moment s : ℕ) →
    parked c (after_accepted h (Tick moment)) s ≡ (if is_some_and (λ t. s == t) (due c h moment) then None else parked c h s)

-- in a legal history that session is live
abbrev pub DueIsLive : Type 0
DueIsLive = (c : Config) (h : History) (moment s : ℕ) → Legal c h → due c h moment ≡ Some s → live h s ≡ true

-- the verdict on an event is the one on it without the deadline of its call, if there is one; else it is TimedOut where the
-- deadline is past and the call would park, and none otherwise. Where both verdicts are the same, the answers are
pub record CountsAsPlain (c : Config) (h : History) (e : Event) : Type 0 where
  pub judged : verdict c h e ≡ option_or (verdict c h (plain e)) (if is_past (now h) (deadline e) && would_park c h (plain e) then Some TimedOut else None)
  pub answered : verdict c h e ≡ verdict c h (plain e) → answers c h e ≡ answers c h (plain e)

-- so it is of each event
abbrev pub EachCountsAsPlain : Type 0
EachCountsAsPlain = (c : Config) (h : History) (e : Event) → CountsAsPlain c h e

-- the calls that rule 32 takes to park are those that park
abbrev pub EachWouldPark : Type 0
EachWouldPark = (c : Config) (h : History) (sid : Sid) (call : Call) → would_park c h (plain (Do sid call)) ≡ is_some (parks c sid.0 (Do sid call) h)
