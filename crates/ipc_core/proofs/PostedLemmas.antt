-- Whom a step answers.
use Rattle.std.proofs.Common.{◌≡◌, [], ◌∷◌, Option, None, ap}
use Rattle.ipc_terms.specs.declared.ids.Uid.{Uid}
use Rattle.ipc_terms.specs.declared.call.Answer.TheVariants.{Started}
use Rattle.ipc_terms.specs.declared.record.Event.TheVariants.{Hello}
use Rattle.ipc_policy.specs.declared.config.Config.{Config}
use Rattle.ipc_policy.specs.Decides.History.{History}
use Rattle.ipc_policy.specs.Decides.Sessions.{hellos}
use Rattle.ipc_policy.specs.Decides.Verdict.{verdict, answers, answers_at}

-- an accepted hello is answered to the session that it starts, and to nobody else
pub hello_answered : (c : Config) (h : History) (found : Option Uid) → verdict c h (Hello found) ≡ None → answers c h (Hello found) ≡ (record { 0 = hellos h }, Started (record { 0 = hellos h })) ∷ []
unfolding answers
hello_answered c h found is = ap (λ v. answers_at v c h (Hello found)) is
