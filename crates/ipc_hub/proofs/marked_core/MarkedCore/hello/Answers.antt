use Rattle.std.proofs.Common.{◌≡◌, Some, None, true, cond, is_some, refl, sym, ap, ◌∙◌}
use Rattle.ipc_terms.specs.declared.record.Event.TheVariants.{Hello}
use Rattle.ipc_access.specs.Users.{user_of_key}
use Rattle.ipc_policy.specs.declared.config.Config.{Config}
use Rattle.ipc_policy.specs.Decides.Sessions.{hellos}
use Rattle.ipc_policy.specs.Decides.Verdict.{verdict}
use Rattle.ipc_hub.specs.Marking.{is_set, MarksView}
use Rattle.ipc_hub.specs.MarkedCore.{MarkedView}
use Rattle.ipc_hub.proofs.HubLemmas.{hello_stepped, hello_starts}
use Rattle.ipc_hub.proofs.MarkedLemmas.{AtHello, hello_owners, hello_undone, hello_refused_follows, hello_accepted_follows, hello_marks, hello_owner, few_started, started_is}
use Rattle.ipc_hub.proofs.OwnerLemmas.{refused_owners, started_owners}
use Rattle.ipc_hub.proofs.marked_core.MarkedCore.hello.Goals as goal
use Rattle.ipc_hub.proofs.marked_core.MarkedCore.hello.Goals.{After-mark}

goes : (c : After-mark) → AtHello c.args.self.now c.args.own c.self.inside.core c.post_marked.new.core c.self.inside.marks c.push_session.new.self c.post_marked.new.marks c.mark.new.self
goes c = record { seen = c.self.view_is; pushed = c.in_ok-push_session.ensures.ok; answered = c.in-Ok.ensures.marks; marked = c.mark.ensures.kept may; within = c.mark.ensures.within may } where
  may : is_set c.post_marked.new.marks.flagged c.args.own ≡ true
  may = ap (λ (m : MarksView). is_set m.flagged c.args.own) c.in-Ok.ensures.marks.same ∙ ap (λ (m : MarksView). is_set m.flagged c.args.own) c.in_ok-push_session.ensures.ok ∙ ap (λ (m : MarkedView). is_set m.flagged c.args.own) c.self.view_is ∙ c.requires

pub invariant_of-self-then-is_some : goal.invariant_of-self-then-is_some
invariant_of-self-then-is_some c =
    let on = ap is_some (sym c.in-Ok.ensures.verdict) ∙ sym c.is_some.ensures ∙ c.if-is_some.true in
    refused_owners c.self.inside.core c.post_marked.new.core c.find-found.result _ _ on c.in-Ok.ensures.ok (hello_undone _ _ _ _ _ _ _ _ c.undo_session-then-is_some.new.self (goes (goal.at.invariant_of-self-then-is_some c).After-mark) c.undo_session-then-is_some.ensures) c.self.invariant

pub returns-then-is_some-clause-marks : goal.returns-then-is_some-clause-marks
returns-then-is_some-clause-marks c = hello_refused_follows _ _ _ _ _ _ _ _ c.undo_session-then-is_some.new.self (goes (goal.at.returns-then-is_some-clause-marks c).After-mark) c.undo_session-then-is_some.ensures

pub returns-then-is_some-clause-marked : goal.returns-then-is_some-clause-marked
returns-then-is_some-clause-marked c = ap (λ (m : MarksView). is_set m.marked c.args.own) c.undo_session-then-is_some.ensures ∙ hello_marks _ _ _ _ _ _ _ _ (goes (goal.at.returns-then-is_some-clause-marked c).After-mark)

pub invariant_of-self-else-is_some : goal.invariant_of-self-else-is_some
invariant_of-self-else-is_some c =
    let off = ap is_some (sym c.in-Ok.ensures.verdict) ∙ sym c.is_some.ensures ∙ c.if-is_some.false in
    started_owners c.self.inside.core c.post_marked.new.core c.find-found.result c.args.own _ _ off c.in-Ok.ensures.ok (hello_owners _ _ _ _ _ _ _ _ (goes (goal.at.invariant_of-self-else-is_some c).After-mark)) c.self.invariant

pub returns-clause-session : goal.returns-clause-session
returns-clause-session c =
    let found = c.find-found.ensures ∙ ap (λ (x : Config). user_of_key x.users c.as_slice.result.now) c.config.ensures ∙ ap (user_of_key c.self.inside.core.config.users) c.as_slice.ensures in
    hello_stepped c.self.inside.core c.find-found.result _ c.in-Ok.posted.verdict c.in-Ok.posted.caller found c.in-Ok.ensures.verdict (sym c.is_some.ensures ∙ c.if-is_some.false) c.in-Ok.ensures.caller ∙ ap (λ (z : MarkedView). cond (is_some (verdict z.core.config z.core.history (Hello (user_of_key z.core.config.users c.args.key.now)))) None (Some (record { 0 = hellos z.core.history }))) c.self.view_is

pub returns-clause-marks : goal.returns-clause-marks
returns-clause-marks c = hello_accepted_follows _ _ _ _ _ _ _ _ (goes (goal.at.returns-clause-marks c).After-mark)

pub returns-clause-marked : goal.returns-clause-marked
returns-clause-marked c = hello_marks _ _ _ _ _ _ _ _ (goes (goal.at.returns-clause-marked c).After-mark)

pub returns-clause-owner : goal.returns-clause-owner
returns-clause-owner c sid e =
    let off = ap is_some (sym c.in-Ok.ensures.verdict) ∙ sym c.is_some.ensures ∙ c.if-is_some.false in
    let caller = c.in-Ok.ensures.caller ∙ hello_starts c.self.inside.core c.find-found.result off in
    hello_owner _ _ _ _ _ _ _ _ sid.0 (goes (goal.at.returns-clause-owner c).After-mark) (started_is c.in-Ok.posted.caller (hellos c.self.inside.core.history) sid caller e ∙ sym c.self.invariant.count)

pub returns-clause-few : goal.returns-clause-few
returns-clause-few c =
    let off = ap is_some (sym c.in-Ok.ensures.verdict) ∙ sym c.is_some.ensures ∙ c.if-is_some.false in
    let caller = c.in-Ok.ensures.caller ∙ hello_starts c.self.inside.core c.find-found.result off in
    few_started c.self.inside.core c.post_marked.new.core c.in-Ok.posted.caller (hellos c.self.inside.core.history) c.keeps_the_last.ensures c.in-Ok.ensures.few caller refl
