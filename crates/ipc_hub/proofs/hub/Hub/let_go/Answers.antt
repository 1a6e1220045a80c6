use Rattle.std.proofs.Common.{◌≡◌, ℕ, true, false, eqb, cond, List, Some, Option, refl, sym, ap, subst, ◌∙◌, arith}
use Rattle.std.specs.Prelude.{unwrap_or}
use Rattle.std.specs.Option.{option_copied, option_map}
use Rattle.ipc_containers.specs.Slots.{at}
use Rattle.ipc_hub.specs.Hub.{Hub, Connection, IsGone, is_over_at}
use Rattle.ipc_hub.specs.Gone.{all_of, gone_at, AreAway}
use Rattle.ipc_hub.specs.MarkedCore.{MarkedView}
use Rattle.ipc_hub.specs.Sessions.{Stands}
use Rattle.ipc_hub.proofs.HubMarks.{hub_view, let_go_stands}
use Rattle.ipc_hub.proofs.KeptLemmas.{kept_there, kept_taken, let_go_away, away_of}
use Rattle.ipc_hub.proofs.hub.Hub.let_go.Goals as goal
use Rattle.ipc_hub.proofs.hub.Hub.let_go.Goals.{Joined-take}

kept : (c : Joined-take) → at c.self.inside.connections c.args.i ≡ Some c.in-Some.connection.now
kept c = sym c.get.ensures ∙ ap option_copied c.in-Some.is

named : (c : Joined-take) (m : ℕ) → gone_at c.of-then-kept-eq0-3.result.value m ≡ cond (eqb c.args.i m) c.in-Some.connection.now (gone_at c.self.inside.gone.value m)
named c m = rw (c.of-then-kept-eq0-3.ensures, c.of-then-kept-eq0-2.ensures, c.of-then-kept-eq0.ensures, c.of.ensures) refl

same : (c : Joined-take) → all_of c.take.new.self c.of-then-kept-eq0-3.result.value ≡ all_of c.self.inside.connections c.self.inside.gone.value
same c = rw c.take.ensures.rest (kept_taken c.self.inside.connections c.of-then-kept-eq0-3.result.value c.self.inside.gone.value c.args.i c.in-Some.connection.now (named c) (kept c))

pub invariant_of-self : goal.invariant_of-self
invariant_of-self c =
    let here = (goal.at.invariant_of-self c).Joined-take in
    let x = c.in-Some.connection.now in
    let there = kept_there c.self.inside.connections c.self.inside.gone.value c.args.i x (kept here) in
    let over : x.is_over ≡ true = sym c.is_over.ensures ∙ c.if-is_over.true in
    let gone = subst (λ (h : Hub). is_over_at h c.args.i ≡ true → IsGone h c.args.i) (sym c.self.view_is) c.requires in
    let away = away_of (hub_view c.self.inside.core (all_of c.self.inside.connections c.self.inside.gone.value)) c.args.i x there over (let none = c.if-kept-eq0.true in let k = c.kept.ensures in omega arith) (gone (ap (λ (o : Option Connection). unwrap_or (option_map (λ (y : Connection). y.is_over) o) false) there ∙ over)) in (
      subst (λ (xs : List Connection). Stands c.let_go.new.self xs) (sym (same here)) (let_go_stands c.self.inside.core c.let_go.new.self (all_of c.self.inside.connections c.self.inside.gone.value) c.args.i x c.self.invariant.0 there over c.let_go.ensures.same c.let_go.ensures.count c.let_go.ensures.others),
      subst (λ (m : MarkedView). AreAway m.core c.take.new.self c.of-then-kept-eq0-3.result.value) (sym c.let_go.ensures.same) (rw c.take.ensures.rest (let_go_away c.self.inside.core.core c.self.inside.connections c.of-then-kept-eq0-3.result.value c.self.inside.gone.value c.args.i x (named here) away c.self.invariant.1)),
    )

pub returns-then-kept-eq0 : goal.returns-then-kept-eq0
returns-then-kept-eq0 c = ap (λ (m : MarkedView). hub_view m (all_of c.take.new.self c.of-then-kept-eq0-3.result.value)) c.let_go.ensures.same ∙ ap (λ (xs : List Connection). hub_view c.self.inside.core xs) (same (goal.at.returns-then-kept-eq0 c).Joined-take) ∙ c.self.view_is
