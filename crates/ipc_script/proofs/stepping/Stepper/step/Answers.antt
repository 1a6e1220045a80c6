use Rattle.std.proofs.Common.{rules, ◌≡◌, ◌∙◌, ap}
use Rattle.std.specs.Prelude.{None}
use Rattle.ipc_policy.specs.Decides.Verdict.{answers}
use Rattle.ipc_core.specs.CoreView.{CoreView}
use Rattle.ipc_script.proofs.SteppingLemmas.{after_answers, after_refusal}
use Rattle.ipc_script.proofs.stepping.Stepper.step.Goals as goal

pub invariant_of-self-in-Some : goal.invariant_of-self-in-Some
invariant_of-self-in-Some c =
    (after_refusal c.self.inside.core c.post.new.self c.clear.new.self c.args.event c.in_ok-posted.posted.verdict c.in-Some.rule c.caller-named.result
    c.keeps_the_last.ensures c.self.invariant c.in_ok-posted.ensures.verdict c.in-Some.is c.caller-named.ensures c.in_ok-posted.ensures.ok c.clear.ensures).0

pub returns-in-Some-clause-answers : goal.returns-in-Some-clause-answers
returns-in-Some-clause-answers c =
    let told = (after_refusal c.self.inside.core c.post.new.self c.clear.new.self c.args.event c.in_ok-posted.posted.verdict c.in-Some.rule c.caller-named.result
    c.keeps_the_last.ensures c.self.invariant c.in_ok-posted.ensures.verdict c.in-Some.is c.caller-named.ensures c.in_ok-posted.ensures.ok c.clear.ensures).1 in
    told ∙ ap (λ (k : CoreView). answers k.config k.history c.args.event) c.self.view_is

pub invariant_of-self-2 : goal.invariant_of-self-2
invariant_of-self-2 c =
    let accepted : c.in_ok-posted.posted.verdict ≡ None = search rules in
    (after_answers _ c.self.inside.core c.post.new.self c.take-first.new.self c.take-second.new.self c.args.event c.in_ok-posted.posted.verdict
    c.in_ok-posted.posted.caller c.in_ok-posted.posted.other c.unwrap_or-caller.result c.unwrap_or-other.result c.take-first.result.items c.take-second.result.items
    c.is_legal.ensures.legal c.keeps_the_last.ensures c.self.invariant c.in_ok-posted.ensures.verdict accepted
    c.in_ok-posted.ensures.caller c.in_ok-posted.ensures.other c.in_ok-posted.ensures.sessions c.in_ok-posted.ensures.ok
    c.unwrap_or-caller.ensures c.unwrap_or-other.ensures c.take-first.ensures.given c.take-first.ensures.left c.take-second.ensures.given c.take-second.ensures.left).0

pub returns-clause-answers : goal.returns-clause-answers
returns-clause-answers c =
    let accepted : c.in_ok-posted.posted.verdict ≡ None = search rules in
    let told = (after_answers _ c.self.inside.core c.post.new.self c.take-first.new.self c.take-second.new.self c.args.event c.in_ok-posted.posted.verdict
    c.in_ok-posted.posted.caller c.in_ok-posted.posted.other c.unwrap_or-caller.result c.unwrap_or-other.result c.take-first.result.items c.take-second.result.items
    c.is_legal.ensures.legal c.keeps_the_last.ensures c.self.invariant c.in_ok-posted.ensures.verdict accepted
    c.in_ok-posted.ensures.caller c.in_ok-posted.ensures.other c.in_ok-posted.ensures.sessions c.in_ok-posted.ensures.ok
    c.unwrap_or-caller.ensures c.unwrap_or-other.ensures c.take-first.ensures.given c.take-first.ensures.left c.take-second.ensures.given c.take-second.ensures.left).1 in
    told ∙ ap (λ (k : CoreView). answers k.config k.history c.args.event) c.self.view_is
