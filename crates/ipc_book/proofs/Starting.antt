-- The session that an accepted hello starts.
use Rattle.std.proofs.Common.{◌≡◌, true, false, Option, Some, None, is_none, refl, ap, ◌∙◌}
use Rattle.ipc_terms.specs.declared.ids.Sid.{Sid}
use Rattle.ipc_terms.specs.declared.ids.Uid.{Uid}
use Rattle.ipc_terms.specs.declared.rule.Rule.{Rule}
use Rattle.ipc_terms.specs.declared.record.Event.TheVariants.{Hello}
use Rattle.ipc_policy.specs.declared.config.Config.{Config}
use Rattle.ipc_policy.specs.Decides.History.{History}
use Rattle.ipc_policy.specs.Decides.Sessions.{hellos}
use Rattle.ipc_policy.specs.Decides.Verdict.{verdict, answers}
use Rattle.ipc_core.specs.CoreView.{CoreView}
use Rattle.ipc_core.specs.Outboxes.{session_at}
use Rattle.ipc_core.proofs.PostedLemmas.{hello_answered}
use Rattle.ipc_book.specs.Seats.{session_ruled, session_after}

-- it is the one that is answered first
pub hello_told : (c : Config) (h : History) (found : Option Uid) → verdict c h (Hello found) ≡ None → session_at 0 (answers c h (Hello found)) ≡ Some (record { 0 = hellos h })
hello_told c h found is = ap (session_at 0) (hello_answered c h found is)

-- and the seat has it
pub sid_started : (a : CoreView) (found found' : Option Uid) (v : Option Rule) (was now : Option Sid) → found ≡ found' → v ≡ verdict a.config a.history (Hello found) → is_none v ≡ true → now ≡ Some (record { 0 = hellos a.history }) → now ≡ session_after a (Hello found') was
sid_started a found found' None was now q same is at =
    at ∙ ap (λ w. session_ruled w (hellos a.history) (Hello found) was) same ∙ ap (λ u. session_after a (Hello u) was) q
sid_started a found found' (Some rule) was now q same is at = absurd cc

-- a refused event leaves the seat's session
pub sid_stays : (a : CoreView) (found found' : Option Uid) (v : Option Rule) (was now : Option Sid) → found ≡ found' → v ≡ verdict a.config a.history (Hello found) → is_none v ≡ false → now ≡ was → now ≡ session_after a (Hello found') was
sid_stays a found found' None was now q same is at = absurd cc
sid_stays a found found' (Some rule) was now q same is at =
    at ∙ ap (λ w. session_ruled w (hellos a.history) (Hello found) was) same ∙ ap (λ u. session_after a (Hello u) was) q

pub none_is : (v : Option Rule) → is_none v ≡ true → v ≡ None
none_is None e = refl
none_is (Some rule) e = absurd cc
