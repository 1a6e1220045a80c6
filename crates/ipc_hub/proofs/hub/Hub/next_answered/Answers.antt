use Rattle.std.proofs.Common.{◌≡◌, ◌<◌, ◌∙◌, false, not, length, Option, Some, None, is_some, Bor, refl, sym, ap, subst, arith}
use Rattle.std.specs.Option.{option_copied}
use Rattle.ipc_containers.specs.Slots.{at}
use Rattle.ipc_hub.specs.Gone.{all_of, gone_at, AreAway}
use Rattle.ipc_hub.specs.MarkedCore.{MarkedView}
use Rattle.ipc_hub.proofs.MarkLemmas.{set_within}
use Rattle.ipc_hub.proofs.HubMarks.{named_stands, let_go_stands}
use Rattle.ipc_hub.proofs.KeptLemmas.{gone_there, away_at}
use Rattle.ipc_hub.proofs.hub.Hub.next_answered.Goals as goal

none_copied : {X : Type 0} (r : Option (Bor X)) → is_some r ≡ false → option_copied r ≡ None
none_copied None none = refl
none_copied (Some x) none = absurd cc

pub invariant_of-self-then-is_none : goal.invariant_of-self-then-is_none
invariant_of-self-then-is_none c =
    let rows = c.self.inside.connections in
    let gone = c.self.inside.gone.value in
    let i = c.in_ok-number.number in
    let now = c.in_ok-number.ensures.some.1 in
    let lt = set_within c.self.inside.core.marked i c.in_ok-number.ensures.some.0 in
    let count = c.self.invariant.0.count in
    let within : i < length (all_of rows gone) = omega arith in
    let absent : at rows i ≡ None = sym c.get.ensures ∙ none_copied _ (c.is_none.ensures ∙ ap not c.if-is_none.true) in
    let over = (away_at c.self.inside.core.core rows gone i c.self.invariant.1 within absent).over in (
      let_go_stands c.next_answered.new.self c.let_go.new.self (all_of rows gone) i (gone_at gone i) (named_stands c.self.inside.core c.next_answered.new.self (all_of rows gone) i c.self.invariant.0 now) (gone_there rows gone i within absent) over c.let_go.ensures.same c.let_go.ensures.count c.let_go.ensures.others,
      subst (λ (m : MarkedView). AreAway m.core rows gone) (sym c.let_go.ensures.same) (subst (λ (m : MarkedView). AreAway m.core rows gone) (sym now) c.self.invariant.1),
    )
