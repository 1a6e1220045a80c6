use Rattle.std.proofs.Common.{◌≡◌, Option, Some, None, false, MatchOption}
use Rattle.ipc_terms.specs.Rules.{every_rule}
use Rattle.ipc_terms.specs.declared.rule.Rule.{Rule}
use Rattle.ipc_terms.specs.declared.record.Event.{Event}
use Rattle.ipc_policy.specs.declared.config.Config.{Config}
use Rattle.ipc_policy.specs.Decides.History.{History}
use Rattle.ipc_policy.specs.Decides.Rules.{forbids}
use Rattle.ipc_policy.specs.Decides.Verdict.{verdict}
use Rattle.ipc_policy.specs.Follows.Laws.{IsLeastForbidding}
use Rattle.ipc_policy.proofs.Lists.FirstPassing.{first_is_least, numbered, has_place, place_of, NonePass, IsLeastPassing}
use Rattle.ipc_policy.proofs.laws.least.Goals as goal

spread : (c : Config) (h : History) (e : Event) (o : Option Rule) → MatchOption o (NonePass (λ rule. forbids rule c h e) every_rule) (IsLeastPassing (λ rule. forbids rule c h e) every_rule) → MatchOption o ((rule : Rule) → forbids rule c h e ≡ false) (IsLeastForbidding c h e)
spread c h e None q = λ rule. q (place_of rule) rule (has_place rule)
spread c h e (Some x) q = record { forbidden = q.0; lowest = λ rule k. q.1 (place_of rule) rule (has_place rule) k }

pub returns : goal.returns
unfolding verdict
returns g = λ c h e. spread c h e (verdict c h e) (first_is_least (λ rule. forbids rule c h e) 1 every_rule numbered)
