-- What is answered to a session that is live is kept until the session takes it.
use Rattle.std.specs.Prelude.{◌≡◌, ◌≢◌, ℕ, List, [], ◌++◌}
use Rattle.ipc_terms.specs.Lists.{changed}
use Rattle.ipc_terms.specs.declared.call.Answer.{Answer}
use Rattle.ipc_terms.specs.declared.record.Event.{Event}
use Rattle.ipc_policy.specs.declared.config.Config.{Config}
use Rattle.ipc_policy.specs.Decides.History.{History}
use Rattle.ipc_policy.specs.Decides.Verdict.{outbox}
use Rattle.ipc_core.specs.Boxes.{box_at, taken}
use Rattle.ipc_core.specs.Outboxes.{BoxesAgree, added, untaken_after, after_steps}
use Rattle.ipc_core.specs.CoreView.{CoreView}

-- an event adds its answers to a session at the end of what that has not taken, where the session is live after the
-- record; nothing else changes there
abbrev pub EachIsAdded : Type 0
EachIsAdded = (c : Config) (h : History) (e : Event) (boxes : List (List Answer)) (s : ℕ) → BoxesAgree c h boxes → box_at (untaken_after c h e boxes) s ≡ box_at boxes s ++ added c h e s

-- a session's untaken answers and the whole of its outbox gain the same
pub record Gains (a b : CoreView) (s : ℕ) : Type 0 where
  pub more : List Answer
  pub outbox_is : outbox b.config b.history s ≡ outbox a.config a.history s ++ more
  pub untaken_is : box_at b.untaken s ≡ box_at a.untaken s ++ more

-- whatever events are stepped
abbrev pub AllIsKept : Type 0
AllIsKept = (es : List Event) (a : CoreView) (s : ℕ) → BoxesAgree a.config a.history a.untaken → Gains a (after_steps es a) s

-- a take of session s leaves that nothing
abbrev pub TakenIsGone : Type 0
TakenIsGone = (boxes : List (List Answer)) (s : ℕ) → box_at (changed taken boxes s) s ≡ []

-- and every other session what it had not taken
abbrev pub OthersAreKept : Type 0
OthersAreKept = (boxes : List (List Answer)) (s t : ℕ) → t ≢ s → box_at (changed taken boxes s) t ≡ box_at boxes t
