use Rattle.std.proofs.Common.{◌++◌, ◌∷◌, [], length, sym, ap, subst, ◌∙◌}
use Rattle.ipc_hub.specs.Hub.{Hub, Connection}
use Rattle.ipc_hub.specs.Gone.{all_of, AreAway}
use Rattle.ipc_hub.proofs.hub.Hub.open.Goals as goal
use Rattle.ipc_hub.specs.Hub.{with_connection}
use Rattle.ipc_hub.specs.MarkedCore.{MarkedView}
use Rattle.ipc_hub.proofs.HubMarks.{opened_stands}
use Rattle.ipc_hub.proofs.KeptLemmas.{as_many, kept_push, pushed_away, ok_of}

pub invariant_of-self-else-is_err : goal.invariant_of-self-else-is_err
invariant_of-self-else-is_err c =
    let one = kept_push 0 c.self.inside.connections c.self.inside.gone.value c.in_ok-new.field-0 in
    let marks = ok_of c.push_connection.result _ (sym c.is_err.ensures.value ∙ c.if-is_err.false) c.push_connection.ensures.ok in
    rw c.in_ok-push.ensures.ok (
      opened_stands c.self.inside.core c.push_connection.new.self (all_of c.self.inside.connections c.self.inside.gone.value) _ c.in_ok-new.field-0 c.self.invariant.0 c.in_ok-new.ensures one marks,
      pushed_away c.push_connection.new.self.core c.self.inside.connections c.self.inside.gone.value c.in_ok-new.field-0 (subst (λ (m : MarkedView). AreAway m.core c.self.inside.connections c.self.inside.gone.value) (sym marks) c.self.invariant.1),
    )

pub returns-clause-number : goal.returns-clause-number
returns-clause-number c = c.next_number.ensures ∙ sym (as_many 0 c.self.inside.connections c.self.inside.gone.value) ∙ ap (λ (h : Hub). length h.connections) c.self.view_is

pub returns-clause-ok : goal.returns-clause-ok
returns-clause-ok c =
    let one = kept_push 0 c.self.inside.connections c.self.inside.gone.value c.in_ok-new.field-0 ∙ ap (λ (x : Connection). (all_of c.self.inside.connections c.self.inside.gone.value) ++ x ∷ []) c.in_ok-new.ensures in
    let marks = ok_of c.push_connection.result _ (sym c.is_err.ensures.value ∙ c.if-is_err.false) c.push_connection.ensures.ok in
    rw (marks, c.in_ok-push.ensures.ok, one) (ap with_connection c.self.view_is)
